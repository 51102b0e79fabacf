use Rattle.std.proofs.Common.{◌≡◌, take}
use Rattle.mucwathi_looks.proofs.signs.numbers.Given as goal

abbrev pub invariant-loop-mark : goal.invariant-loop-mark
invariant-loop-mark l = l.numbers.items ≡ take l.mark-index l.marks
