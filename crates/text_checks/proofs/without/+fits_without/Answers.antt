use Rattle.std.proofs.Common.{◌≡◌, ℕ, ◌∙◌, false, List, map, sym, ap, arith}
use Rattle.swc_tree_node.specs.declared.slot.Field.{Field}
use Rattle.swc_tree_node.specs.declared.slot.Role.{Role}
use Rattle.swc_tree_node.specs.declared.slot.Slot.{Slot}
use Rattle.swc_tree_node.specs.Fits.{each_fits, fits}
use Rattle.text_checks.proofs.Fitting.{all_items, all_passed, field_fits, item_fits, slots}
use Rattle.text_checks.proofs.Sought.{none_at_end, none_more, none_of_leaf, none_of_list, none_of_tree}
use Rattle.text_checks.proofs.without.+fits_without.Goals as goal

pub all_fit_without-loop-i-preserved : goal.all_fit_without-loop-i-preserved
all_fit_without-loop-i-preserved g t c = record {
  fits = c.loop-i.invariant.fits ∙ item_fits c.args.nodes.now c.loop-i.i c.args.slot c.index-nodes-i.result c.loop-i-test.true c.index-nodes-i.is (c.fits_without.ensures.fits c.if-not-fits_without.false);
  none = none_more (g.F.Finder.is_sought c.args.finder.now) c.args.nodes.now c.loop-i.i c.index-nodes-i.result c.loop-i-test.true c.index-nodes-i.is (c.fits_without.ensures.none c.if-not-fits_without.false) c.loop-i.invariant.none;
}

pub each_fits_without-loop-i-preserved : goal.each_fits_without-loop-i-preserved
each_fits_without-loop-i-preserved g t c = record {
  fits = c.loop-i.invariant.fits ∙ field_fits (map (λ (f : Field). f.slot) c.args.places.now) c.args.fields.now c.loop-i.i c.slot_at.result c.index-fields-i.result c.loop-i-test.true c.slot_at.ensures c.index-fields-i.is (c.fits_without.ensures.fits c.if-not-fits_without.false);
  none = none_more (g.F.Finder.is_sought c.args.finder.now) c.args.fields.now c.loop-i.i c.index-fields-i.result c.loop-i-test.true c.index-fields-i.is (c.fits_without.ensures.none c.if-not-fits_without.false) c.loop-i.invariant.none;
  same = c.loop-i.invariant.same;
}

pub all_fit_without-returns-clause-fits : goal.all_fit_without-returns-clause-fits
all_fit_without-returns-clause-fits g t c held = c.loop-i.invariant.fits ∙ all_items c.args.nodes.now c.loop-i.i c.args.slot (omega arith)

pub all_fit_without-returns-clause-none : goal.all_fit_without-returns-clause-none
all_fit_without-returns-clause-none g t c held = none_at_end (g.F.Finder.is_sought c.args.finder.now) c.args.nodes.now c.loop-i.i (omega arith) c.loop-i.invariant.none

pub each_fits_without-returns-clause-fits : goal.each_fits_without-returns-clause-fits
each_fits_without-returns-clause-fits g t c held = c.loop-i.invariant.fits ∙ all_passed c.args.places.now c.args.fields.now c.loop-i.i (omega arith) c.loop-i.invariant.same

pub each_fits_without-returns-clause-none : goal.each_fits_without-returns-clause-none
each_fits_without-returns-clause-none g t c held = none_at_end (g.F.Finder.is_sought c.args.finder.now) c.args.fields.now c.loop-i.i (omega arith) c.loop-i.invariant.none

pub fields_fit_without-returns-clause-fits : goal.fields_fit_without-returns-clause-fits
fields_fit_without-returns-clause-fits g t c held =
    sym (ap (λ ss. each_fits ss (map fits c.args.fields.now)) (slots c.fields_of.result.now ∙ ap (λ l. map (λ (r : List ℕ × Slot × Role). r.1) l) c.fields_of.ensures))
    ∙ c.each_fits_without.ensures.fits held

pub fits_without-returns-in-List-clause-none : goal.fits_without-returns-in-List-clause-none
fits_without-returns-in-List-clause-none g t c held =
    let lost : c.is_sought.result ≡ false = cc in
    none_of_list (g.F.Finder.is_sought c.args.finder.now) c.args.node.now c.in-List.items c.as_slice.result.now c.is_sought.result c.in-List.is c.as_slice.ensures c.is_sought.ensures lost (c.list_fits_without.ensures.none held)

pub fits_without-returns-in-Tree-clause-none : goal.fits_without-returns-in-Tree-clause-none
fits_without-returns-in-Tree-clause-none g t c held =
    let lost : c.is_sought.result ≡ false = cc in
    none_of_tree (g.F.Finder.is_sought c.args.finder.now) c.args.node.now c.in-Tree.kind c.in-Tree.fields c.as_slice-in-Tree.result.now c.is_sought.result c.in-Tree.is c.as_slice-in-Tree.ensures c.is_sought.ensures lost (c.tree_fits_without.ensures.none held)

pub fits_without-returns-in_default-clause-none : goal.fits_without-returns-in_default-clause-none
fits_without-returns-in_default-clause-none g t c held =
    let lost : c.is_sought.result ≡ false = cc in
    none_of_leaf (g.F.Finder.is_sought c.args.finder.now) c.args.node.now c.is_sought.result c.in_default.not-List c.in_default.not-Tree c.is_sought.ensures lost
