-- Texts in quotes, as JSON has them.
use Rattle.std.specs.Prelude.{ℕ, ◌/◌, ◌%◌, List, [], ◌∷◌, ◌++◌, Bool, ◌||◌, nat_eq, nat_lt, if◌then◌else◌, codes, slice_index}

abbrev pub hex : ℕ → ℕ
hex n = slice_index (codes "0123456789abcdef") n

-- a quote or a backslash
abbrev pub takes_backslash : ℕ → Bool
takes_backslash b = nat_eq b 34 || nat_eq b 92

-- a byte in quotes
abbrev pub escaped : ℕ → List ℕ
escaped b = if takes_backslash b then 92 ∷ b ∷ [] else if nat_lt b 32 then 92 ∷ 117 ∷ 48 ∷ 48 ∷ hex (b / 16) ∷ hex (b % 16) ∷ [] else (b ∷ [])

abbrev pub escaped_all : List ℕ → List ℕ
escaped_all [] = []
escaped_all (b ∷ bs) = escaped b ++ escaped_all bs

-- a text in quotes
abbrev pub quoted : List ℕ → List ℕ
quoted text = 34 ∷ escaped_all text ++ 34 ∷ []

-- texts behind one another, a comma before each
abbrev pub quoted_more : List (List ℕ) → List ℕ
quoted_more [] = []
quoted_more (t ∷ ts) = 44 ∷ quoted t ++ quoted_more ts

-- ... and none before the first
abbrev pub quoted_all : List (List ℕ) → List ℕ
quoted_all [] = []
quoted_all (t ∷ ts) = quoted t ++ quoted_more ts
