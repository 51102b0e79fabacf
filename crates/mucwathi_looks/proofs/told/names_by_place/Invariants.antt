use Rattle.std.proofs.Common.{map, take}
use Rattle.mucwathi_looks.specs.Spots.{HasNames, seen}
use Rattle.mucwathi_looks.proofs.told.names_by_place.Given as goal

abbrev pub invariant-loop-spot : goal.invariant-loop-spot
invariant-loop-spot l = HasNames (map seen (take l.spot-index l.spots)) l.names
