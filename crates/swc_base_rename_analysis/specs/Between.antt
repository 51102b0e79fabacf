-- Positions between two others.
use Rattle.std.specs.Prelude.{ℕ, ◌<◌, ◌≤◌, List, length, get_or}

-- they rise
abbrev pub AreAscending : List ℕ → Type 0
AreAscending xs = (i j : ℕ) → i < j → j < length xs → get_or xs i 0 < get_or xs j 0

-- those before an index are before the start, and the others are not
abbrev pub IsFirstFrom : List ℕ → ℕ → ℕ → Type 0
IsFirstFrom xs start index = (index ≤ length xs) × ((k : ℕ) → k < index → get_or xs k 0 < start) × ((k : ℕ) → index ≤ k → k < length xs → start ≤ get_or xs k 0)

-- one of them is at the start or behind it, and before the end
abbrev pub OneBetween : List ℕ → ℕ → ℕ → Type 0
OneBetween xs start end = (k : ℕ) × (k < length xs) × (start ≤ get_or xs k 0) × (get_or xs k 0 < end)
