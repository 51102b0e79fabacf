use Rattle.std.proofs.Common.{drop}
use Rattle.swc_base_alpha.specs.Pairs.{Meets, pairs}
use Rattle.swc_base_alpha.proofs.Passed.{Passed}
use Rattle.swc_base_alpha.proofs.SideBySide.{Left}
use Rattle.swc_base_alpha.proofs.pairs.first_apart.Given as goal

-- what is asked of all is asked of what is left, whatever that is
abbrev pub invariant-loop-i : goal.invariant-loop-i
invariant-loop-i l = Passed (Left (Meets l.question)) (pairs l.ones l.others) (drop l.i (pairs l.ones l.others))
