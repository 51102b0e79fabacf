use Rattle.mucwathi_signs.specs.Cut.{AreWritten}
use Rattle.mucwathi_signs.proofs.find.find_signs.Given as goal

abbrev pub invariant-loop-i : goal.invariant-loop-i
invariant-loop-i l = AreWritten l.text l.found.items
