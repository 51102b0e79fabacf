-- The first and the last position of ids.
use Rattle.std.specs.Prelude.{ℕ, ◌-◌, Bool, false, ◌||◌, nat_le, nat_lt, Option, Some, List, get_or, length, map}
use Rattle.swc_base_rename_analysis.specs.declared.layout.Region.{Region}
use Rattle.swc_base_rename_analysis.specs.declared.numbers.Entry.{Entry}

abbrev pub span : List ℕ → ℕ × ℕ
span positions = (get_or positions 0 0, get_or positions (length positions - 1) 0)

-- of each id, by its number
abbrev pub spans : List Entry → List (ℕ × ℕ)
spans ids = map (λ e. span e.positions.items) ids

-- the scope ends before the first position or begins behind the last
abbrev pub is_apart : Option Region → Option (ℕ × ℕ) → Bool
is_apart (Some r) (Some s) = nat_lt s.1 r.start || nat_le r.end s.0
is_apart _ _ = false
