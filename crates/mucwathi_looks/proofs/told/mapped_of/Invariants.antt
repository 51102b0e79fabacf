use Rattle.std.proofs.Common.{◌≡◌, map, take}
use Rattle.mucwathi_looks.specs.Spots.{all_told, names_in, seen, told}
use Rattle.mucwathi_looks.proofs.told.mapped_of.Given as goal

abbrev pub invariant-loop-i : goal.invariant-loop-i
invariant-loop-i l = map told l.mapped.items ≡ all_told (names_in l.olds) (map seen (take l.i l.news)) (map seen (take l.i l.outs))
