use Rattle.std.proofs.Common.{ℕ, ◌<◌, ◌≤◌, get_or}
use Rattle.mucwathi_signs.specs.declared.sign.Sign.{Sign}
use Rattle.mucwathi_looks.proofs.behind.rise.Given as goal

abbrev pub invariant-signs : goal.invariant-signs
invariant-signs l = record {
  some : 1 ≤ l.i;
  before : (a b : ℕ) (d : Sign) → a < b → b < l.i → (get_or l.signs a d).at < (get_or l.signs b d).at;
}
