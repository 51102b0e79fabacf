use Rattle.std.proofs.Common.{◌≡◌, ◌++◌, take}
use Rattle.mucwathi_signs.specs.Signed.{more_marks}
use Rattle.mucwathi_signs.proofs.put.add_more.Given as goal

abbrev pub invariant-loop-mark : goal.invariant-loop-mark
invariant-loop-mark l = l.out.items ≡ l.initial.out.items ++ more_marks (take l.mark-index l.marks)
