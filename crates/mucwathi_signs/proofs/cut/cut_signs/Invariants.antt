use Rattle.mucwathi_signs.specs.Cut.{IsCutTo}
use Rattle.mucwathi_signs.proofs.cut.cut_signs.Given as goal

abbrev pub invariant-loop-sign : goal.invariant-loop-sign
invariant-loop-sign l = IsCutTo l.text l.from l.cut
