use Rattle.std.proofs.Common.{◌≡◌, ◌++◌, map, take}
use Rattle.std.specs.List.{flat_map}
use Rattle.mucwathi_looks.specs.Spots.{seen, spots}
use Rattle.mucwathi_looks.proofs.spots.+add_spots.Given as goal

abbrev pub invariant-add_spots_of-loop-i : goal.invariant-add_spots_of-loop-i
invariant-add_spots_of-loop-i l = map seen l.found.items ≡ map seen l.initial.found.items ++ flat_map spots (take l.i l.nodes)
