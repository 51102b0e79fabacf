-- The line of a place, and a caret under it.
use Rattle.std.specs.List.{flat_map}
use Rattle.std.specs.Prelude.{◌≡◌, ◌≢◌, ◌<◌, ◌≤◌, ◌+◌, ◌-◌, ◌==◌, ◌||◌, ◌++◌, ℕ, Bool, codes, drop, get_or, if◌then◌else◌, length, List, [], ◌∷◌, min, nat_lt, take}

-- in UTF-8 a character begins with such a byte
abbrev pub begins : ℕ → Bool
begins b = nat_lt b 128 || nat_lt 191 b

-- a blank stands for a character, and a tab for a tab
abbrev pub blank_for : ℕ → List ℕ
blank_for b = if b == 9 then 9 ∷ [] else if begins b then 32 ∷ [] else []

abbrev pub blanks : List ℕ → List ℕ
blanks = flat_map blank_for

abbrev pub between : ℕ → ℕ → List ℕ → List ℕ
between from to text = take (to - from) (drop from text)

-- at most 72 bytes before a place and behind it, of one line
pub record IsShownOf (text : List ℕ) (at from to : ℕ) : Type 0 where
  pub low : from ≤ at
  pub high : at ≤ to
  pub within : to ≤ length text
  pub near_from : at ≤ from + 72
  pub near_to : to ≤ at + 72
  pub line : (i : ℕ) → from ≤ i → i < to → get_or text i 0 ≢ 10

-- these are added, with a caret under the place
pub record AddsExcerpt (text : List ℕ) (at : ℕ) (old new : List ℕ) : Type 0 where
  pub from : ℕ
  pub to : ℕ
  pub shown : IsShownOf text (min at (length text)) from to
  pub added : new ≡ old ++ codes "    " ++ between from to text ++ codes "\n    " ++ blanks (between from (min at (length text)) text) ++ codes "^\n"
