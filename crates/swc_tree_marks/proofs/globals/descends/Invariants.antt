use Rattle.std.proofs.Common.{◌↔◌}
use Rattle.swc_tree_marks.specs.Globals.{IsDescendant}
use Rattle.swc_tree_marks.proofs.globals.descends.Given as goal

abbrev pub invariant-loop-met : goal.invariant-loop-met
invariant-loop-met l = IsDescendant l.table l.number l.ancestor ↔ IsDescendant l.table l.met l.ancestor

abbrev pub decreases-loop-met : goal.decreases-loop-met
decreases-loop-met l = l.met
