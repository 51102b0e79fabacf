-- The helpers that a program was given.
use Rattle.std.specs.Prelude.{ℕ, Bool, ◌≡◌}

-- the mark of their names, whether they are taken from a package, and which they are, as a set
pub record Chosen : Type 0 where
  pub mark : ℕ
  pub external : Bool
  pub enabled : ℕ

-- but for which helpers they are, nothing changes
pub record KeepsForm (before after : Chosen) : Type 0 where
  pub mark : after.mark ≡ before.mark
  pub external : after.external ≡ before.external
