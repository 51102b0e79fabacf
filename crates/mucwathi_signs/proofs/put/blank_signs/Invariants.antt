use Rattle.std.proofs.Common.{take}
use Rattle.mucwathi_signs.specs.Blanked.{IsBlanked, is_covered}
use Rattle.mucwathi_signs.proofs.put.blank_signs.Given as goal

abbrev pub invariant-loop-sign : goal.invariant-loop-sign
invariant-loop-sign l = IsBlanked (is_covered (take l.sign-index l.signs)) l.initial.out.items l.out.items
