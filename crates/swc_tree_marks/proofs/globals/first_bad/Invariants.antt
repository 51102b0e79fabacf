use Rattle.std.proofs.Common.{take}
use Rattle.swc_tree_marks.specs.Globals.{IsTable}
use Rattle.swc_tree_marks.proofs.globals.first_bad.Given as goal

abbrev pub invariant-loop-i : goal.invariant-loop-i
invariant-loop-i l = IsTable (take l.i l.table)
