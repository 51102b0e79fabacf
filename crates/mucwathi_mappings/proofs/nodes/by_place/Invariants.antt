use Rattle.std.proofs.Common.{take}
use Rattle.mucwathi_mappings.specs.Nodes.{HasLast}
use Rattle.mucwathi_mappings.proofs.nodes.by_place.Given as goal

abbrev pub invariant-loop-node : goal.invariant-loop-node
invariant-loop-node l = HasLast (take l.node-index l.mapped) l.places
