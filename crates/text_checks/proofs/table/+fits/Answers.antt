use Rattle.std.proofs.Common.{◌≡◌, ℕ, List, ◌∙◌, map, sym, ap}
use Rattle.swc_tree_node.specs.declared.slot.Field.{Field}
use Rattle.swc_tree_node.specs.declared.slot.Role.{Role}
use Rattle.swc_tree_node.specs.declared.slot.Slot.{Slot}
use Rattle.swc_tree_node.specs.Fits.{each_fits, fits}
use Rattle.text_checks.proofs.Fitting.{field_fits, field_misfits, item_fits, item_misfits, slots}
use Rattle.text_checks.proofs.table.+fits.Goals as goal

pub all_fit-loop-i-preserved : goal.all_fit-loop-i-preserved
all_fit-loop-i-preserved t c =
    c.loop-i.invariant ∙ item_fits c.args.nodes.now c.loop-i.i c.args.slot c.index-nodes-i.result c.loop-i-test.true c.index-nodes-i.is (sym c.fits.ensures ∙ c.if-not-fits.false)

pub all_fit-returns-then-not-fits : goal.all_fit-returns-then-not-fits
all_fit-returns-then-not-fits t c =
    sym (c.loop-i.invariant ∙ item_misfits c.args.nodes.now c.loop-i.i c.args.slot c.index-nodes-i.result c.loop-i-test.true c.index-nodes-i.is (sym c.fits.ensures ∙ c.if-not-fits.true))

pub each_fits-loop-i-preserved : goal.each_fits-loop-i-preserved
each_fits-loop-i-preserved t c = (
  c.loop-i.invariant.0 ∙ field_fits (map (λ (f : Field). f.slot) c.args.places.now) c.args.fields.now c.loop-i.i c.slot_at.result c.index-fields-i.result c.loop-i-test.true c.slot_at.ensures c.index-fields-i.is (sym c.fits.ensures ∙ c.if-not-fits.false),
  c.loop-i.invariant.1,
)

pub each_fits-returns-then-not-fits : goal.each_fits-returns-then-not-fits
each_fits-returns-then-not-fits t c =
    sym (c.loop-i.invariant.0 ∙ field_misfits (map (λ (f : Field). f.slot) c.args.places.now) c.args.fields.now c.loop-i.i c.slot_at.result c.index-fields-i.result c.loop-i-test.true c.slot_at.ensures c.index-fields-i.is (sym c.fits.ensures ∙ c.if-not-fits.true))

pub fields_fit-returns : goal.fields_fit-returns
fields_fit-returns t c =
    c.each_fits.ensures ∙ ap (λ ss. each_fits ss (map fits c.args.fields.now)) (slots c.fields_of.result.now ∙ ap (λ l. map (λ (r : List ℕ × Slot × Role). r.1) l) c.fields_of.ensures)
