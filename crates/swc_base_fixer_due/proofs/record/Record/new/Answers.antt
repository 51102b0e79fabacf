use Rattle.std.proofs.Common.{ap, ◌∙◌}
use Rattle.swc_base_fixer_due.proofs.Recorded.{all_noted, none_noted, one_noted}
use Rattle.swc_base_fixer_due.proofs.record.Record.new.Goals as goal

pub loop-pair-init : goal.loop-pair-init
loop-pair-init c =
    none_noted c.args.pairs.now _ c.in_ok-places.places
    (ap (λ r. r.iter.rest.now) c.into_iter-pair-iterator.ensures.into_iter_gives ∙ ap (λ i. i.rest.now) c.rev-pair-items.ensures.source ∙ c.iter.ensures.rest)
    c.in_ok-places.ensures.empty

pub loop-pair-preserved : goal.loop-pair-preserved
loop-pair-preserved c = one_noted c.args.pairs.now _ _ c.in-Some.pair.now c.loop-pair.places c.note.new.places c.in-Some.ensures.steps c.in_ok-note.ensures c.loop-pair.invariant

pub returns : goal.returns
returns c = all_noted c.args.pairs.now _ c.loop-pair.places c.in-None.ensures.steps.0 c.loop-pair.invariant
