use Rattle.std.proofs.Common.{◌≡◌, true, refl, sym, ap, ◌∙◌, arith}
use Rattle.std.proofs.lemmas.Option.{slice_get_read}
use Rattle.swc_tree_node.specs.declared.node.Node.{List as Many, Tree}
use Rattle.text_checks.specs.Words.{ask_at, fits, meets}
use Rattle.text_checks.proofs.Read.{met_below, met_next, met_none, met_unasked, none_of_tree, of_list, of_tree}
use Rattle.text_checks.proofs.words.+words.Goals as goal
use Rattle.text_checks.proofs.words.+words.Goals.{all_fit-else-ask-via-then-ask+else-not-fits, all_fit-else-ask-via-else-ask}

pub all_fit-returns-then-not-fits : goal.all_fit-returns-then-not-fits
all_fit-returns-then-not-fits t c =
    let node = c.index-nodes-i.result in
    let here = slice_get_read c.args.nodes.now _ c.loop-i.i node refl (omega arith) c.index-nodes-i.is in
    sym (met_none (ask_at c.args.rule) c.args.nodes.now c.loop-i.i node here
    (ap (λ a. meets a (fits node)) (sym c.ask_at-ask.ensures) ∙ met_below c.ask_at-ask.result (fits node) c.if-ask.true ∙ sym c.fits.ensures ∙ c.if-not-fits.true))

pub all_fit-loop-i-preserved : goal.all_fit-loop-i-preserved
all_fit-loop-i-preserved t c =
    let node = c.index-nodes-i.result in
    let here = slice_get_read c.args.nodes.now _ c.loop-i.i node refl (omega arith) c.index-nodes-i.is in
    let now : meets c.ask_at-ask.result (fits node) ≡ true = elim c.else-ask.branch [
      | all_fit-else-ask-via-then-ask+else-not-fits w ↦ met_below c.ask_at-ask.result (fits node) w.if-ask.true ∙ sym w.fits.ensures ∙ w.if-not-fits.false
      | all_fit-else-ask-via-else-ask w ↦ met_unasked c.ask_at-ask.result (fits node) w.if-ask.false
    ] in
    met_next (ask_at c.args.rule) c.args.nodes.now c.loop-i.i node here c.loop-i.invariant (ap (λ a. meets a (fits node)) (sym c.ask_at-ask.ensures) ∙ now)

pub fits-returns-in-List : goal.fits-returns-in-List
fits-returns-in-List t c =
    c.all_fit.ensures
    ∙ sym (of_list c.args.node.now c.as_slice.result.now c.args.words c.throughout-rule.result (c.in-List.is ∙ ap (λ ts. Many ts) (sym c.as_slice.ensures)) c.throughout-rule.ensures)

pub fits-returns-then-rule : goal.fits-returns-then-rule
fits-returns-then-rule t c =
    c.all_fit-then-rule.ensures
    ∙ sym (of_tree c.args.node.now c.in-Tree.kind c.as_slice-fields.result.now c.args.words c.rule_of-rule.result (c.in-Tree.is ∙ ap (λ ts. Tree c.in-Tree.kind ts) (sym c.as_slice-fields.ensures)) c.rule_of-rule.ensures c.if-rule.true)

pub fits-returns-else-rule : goal.fits-returns-else-rule
fits-returns-else-rule t c =
    c.if-rule.false
    ∙ sym (none_of_tree c.args.node.now c.in-Tree.kind c.as_slice-fields.result.now c.args.words c.rule_of-rule.result (c.in-Tree.is ∙ ap (λ ts. Tree c.in-Tree.kind ts) (sym c.as_slice-fields.ensures)) c.rule_of-rule.ensures c.if-rule.false)
