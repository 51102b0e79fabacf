-- What becomes of comments behind a reference that a pass keeps.
use Rattle.std.specs.Prelude.{◌≡◌, Option, Some, None}
use Rattle.std.specs.Borrow.{MutBor}

-- the reference is the same, and what was behind it became what is behind it now
abbrev pub Behind : {C : Type 0} → (C → C → Type 0) → Option (MutBor C) → Option (MutBor C) → Type 0
Behind Became (Some before) (Some after) = (after.ghost_name ≡ before.ghost_name) × Became before.now after.now
Behind Became None None = Unit {0}
Behind Became _ _ = ⊥
