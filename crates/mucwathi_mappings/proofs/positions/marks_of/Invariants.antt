use Rattle.std.proofs.Common.{All}
use Rattle.mucwathi_mappings.specs.Positions.{IsMark, IsPosition}
use Rattle.mucwathi_mappings.proofs.positions.marks_of.Given as goal

abbrev pub invariant-loop-at : goal.invariant-loop-at
invariant-loop-at l = IsPosition l.text l.at l.position × All (IsMark l.text) l.marks.items
