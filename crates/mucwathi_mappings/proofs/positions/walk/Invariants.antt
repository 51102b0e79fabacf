use Rattle.mucwathi_mappings.specs.Positions.{IsPosition}
use Rattle.mucwathi_mappings.proofs.positions.walk.Given as goal

abbrev pub invariant-loop-at : goal.invariant-loop-at
invariant-loop-at l = IsPosition l.text l.at l.there
