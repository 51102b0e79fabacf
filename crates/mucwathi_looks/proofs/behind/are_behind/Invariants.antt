use Rattle.std.proofs.Common.{ℕ, ◌<◌, get_or, Contains}
use Rattle.mucwathi_signs.specs.declared.sign.Sign.{Sign}
use Rattle.mucwathi_looks.proofs.behind.are_behind.Given as goal

abbrev pub invariant-signs : goal.invariant-signs
invariant-signs l = (k : ℕ) (d : Sign) → k < l.i → Contains l.places (get_or l.signs k d).at
