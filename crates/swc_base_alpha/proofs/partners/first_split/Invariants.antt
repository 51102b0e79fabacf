use Rattle.std.proofs.Common.{drop}
use Rattle.swc_base_alpha.specs.Pairs.{pairs}
use Rattle.swc_base_alpha.specs.Partners.{table_of}
use Rattle.swc_base_alpha.proofs.Passed.{Passed}
use Rattle.swc_base_alpha.proofs.Tables.{Walk}
use Rattle.swc_base_alpha.proofs.partners.first_split.Given as goal

-- ... beside that it agrees with the partners that are known
abbrev pub invariant-loop-i : goal.invariant-loop-i
invariant-loop-i l = Passed (λ all. Walk all (table_of l.partners)) (pairs l.ones l.others) (drop l.i (pairs l.ones l.others))
