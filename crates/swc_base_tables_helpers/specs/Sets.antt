-- Sets of helpers. A set is stored as a number, and has each helper at whose number that number has a 1.
use Rattle.std.specs.Prelude.{◌≡◌, ℕ, ◌⊎◌, ◌↔◌}
use Rattle.std.specs.Int.{bit_at}

-- the set has the helper of this number
abbrev pub Holds : ℕ → ℕ → Type 0
Holds set helper = bit_at set helper ≡ 1

-- the set after is the set before with these helpers, and with no other
abbrev pub Gains : ℕ → ℕ → (ℕ → Type 0) → Type 0
Gains before after Gained = (helper : ℕ) → Holds after helper ↔ (Holds before helper ⊎ Gained helper)
