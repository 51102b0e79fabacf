use Rattle.std.proofs.Common.{ap, drop, get_or, refl, sym, ◌+◌, ◌∙◌}
use Rattle.std.proofs.lemmas.Option.{slice_get_past, slice_get_read}
use Rattle.mucwathi_commands.proofs.Nearest.{onward, steps, stops}
use Rattle.mucwathi_commands.proofs.places.span_at.Goals as goal

pub returns-in-None : goal.returns-in-None
returns-in-None c =
    sym (c.loop-number.invariant ∙ stops c.loop-number.near c.loop-number.node.now c.children.result.now c.args.path.now c.loop-number.number-index c.loop-number-test.true c.children.ensures
    (slice_get_past c.children.result.now (get_or c.args.path.now c.loop-number.number-index 0) c.in-None.ensures.lookup.3))

pub loop-number-preserved : goal.loop-number-preserved
loop-number-preserved c =
    c.loop-number.invariant ∙ steps c.loop-number.near c.loop-number.node.now c.children.result.now c.args.path.now c.loop-number.number-index c.loop-number-test.true c.children.ensures c.in-Some.child.now
    (slice_get_read c.children.result.now _ (get_or c.args.path.now c.loop-number.number-index 0) c.in-Some.child.now refl c.in-Some.ensures.lookup.3.0 c.in-Some.ensures.lookup.1)
    ∙ ap (λ n. onward n c.in-Some.child.now (drop (c.loop-number.number-index + 1) c.args.path.now)) (sym c.span_of-near-in-loop-number.ensures)
