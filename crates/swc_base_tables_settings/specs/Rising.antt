-- Texts in the order of their bytes.
use Rattle.std.specs.Prelude.{ℕ, List, [], ◌∷◌, Bool, true, not, ◌&&◌}
use Rattle.std.specs.Cmp.Lexicographic.{slice_cmp}
use Rattle.std.specs.Ordering.{is_lt, nat_cmp}

-- no text is less than the one before it
abbrev pub rises_after : List ℕ → List (List ℕ) → Bool
rises_after before [] = true
rises_after before (text ∷ rest) = not (is_lt (slice_cmp nat_cmp text before)) && rises_after text rest

abbrev pub is_rising : List (List ℕ) → Bool
is_rising [] = true
is_rising (text ∷ rest) = rises_after text rest
