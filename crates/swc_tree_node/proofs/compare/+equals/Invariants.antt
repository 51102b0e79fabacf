use Rattle.std.proofs.Common.{◌≡◌, take}
use Rattle.swc_tree_node.proofs.compare.+equals.Given as goal

abbrev pub invariant-all_equal-loop-i : goal.invariant-all_equal-loop-i
invariant-all_equal-loop-i l = take l.i l.ones ≡ take l.i l.others
