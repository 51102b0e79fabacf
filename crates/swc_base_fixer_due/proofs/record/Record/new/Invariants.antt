use Rattle.swc_base_fixer_due.proofs.Recorded.{Left}
use Rattle.swc_base_fixer_due.proofs.record.Record.new.Given as goal

abbrev pub invariant-loop-pair : goal.invariant-loop-pair
invariant-loop-pair l = Left l.pairs l.pair-iterator.iter.rest.now l.places
