use Rattle.std.proofs.Common.{◌≡◌, ◌++◌, take, drop, length}
use Rattle.swc_base_fixer_due.specs.Record.{place_in}
use Rattle.swc_base_fixer_due.specs.Walk.{each_told}
use Rattle.swc_base_fixer_due.proofs.pairing.+pair_node.Given as goal

abbrev pub invariant-pair_each-loop-i : goal.invariant-pair_each-loop-i
invariant-pair_each-loop-i g l =
    (length l.nodes ≡ length l.initial.nodes) × (l.nodes ≡ each_told (g.P.Pairing.paired (place_in l.recorded)) (g.P.Pairing.tells l.pairing) (take l.i l.initial.nodes) ++ drop l.i l.initial.nodes)
