use Rattle.std.proofs.Common.{take}
use Rattle.text_checks.proofs.Node.{AllMet}
use Rattle.text_checks.proofs.walk.+walk.Given as goal

abbrev pub invariant-are_kept-loop-i : goal.invariant-are_kept-loop-i
invariant-are_kept-loop-i l = AllMet l.rules (take l.i l.nodes)
