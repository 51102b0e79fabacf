use Rattle.std.proofs.Common.{◌≡◌, map, take}
use Rattle.mucwathi_looks.specs.Spots.{seen}
use Rattle.mucwathi_looks.proofs.Beside.{named}
use Rattle.mucwathi_looks.proofs.spots.same_names.Given as goal

abbrev pub invariant-loop-i : goal.invariant-loop-i
invariant-loop-i l = map named (take l.i l.ones) ≡ map named (take l.i l.others)
