use Rattle.std.proofs.Common.{◌≡◌, take, not}
use Rattle.std.specs.List.{filter}
use Rattle.swc_base_fixer_due.specs.Record.{has_in}
use Rattle.swc_base_fixer_program.proofs.moves.not_set_again.Given as goal

abbrev pub invariant-loop-pair : goal.invariant-loop-pair
invariant-loop-pair l = l.left ≡ filter (λ p. not (has_in l.set p.content)) (take l.pair-index l.pairs)
