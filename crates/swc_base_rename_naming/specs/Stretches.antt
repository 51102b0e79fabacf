-- Positions in a stretch.
use Rattle.std.specs.Prelude.{ℕ, Bool, ◌&&◌, ◌==◌, nat_le, nat_lt, List}
use Rattle.std.specs.List.{list_any}

-- a position is at the start of a stretch or behind it, and before the end
abbrev pub is_within : ℕ × ℕ → ℕ → Bool
is_within stretch p = nat_le stretch.0 p && nat_lt p stretch.1

-- a position is one of those of the id of a number
abbrev pub is_at : (ℕ → List ℕ) → ℕ → ℕ → Bool
is_at positions p id = list_any (λ q. q == p) (positions id)
