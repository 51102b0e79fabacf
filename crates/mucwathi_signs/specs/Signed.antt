-- Texts with signs in them.
use Rattle.std.specs.Prelude.{◌≡◌, ℕ, ◌+◌, ◌≤◌, List, [], ◌∷◌, ◌++◌, length, drop, decimal}
use Rattle.mucwathi_signs.specs.declared.sign.Sign.{Sign}

-- the marks behind the first, each behind a point
abbrev pub more_marks : List ℕ → List ℕ
more_marks [] = []
more_marks (m ∷ ms) = 46 ∷ decimal m ++ more_marks ms

-- what is written for marks: `#2.3`
abbrev pub sign_text : List ℕ → List ℕ
sign_text [] = []
sign_text (m ∷ ms) = 35 ∷ decimal m ++ more_marks ms

-- The text from a place on, with signs written into it: without them it is the text. Each stands where it says, if that is in what is left of the text.
pub data IsSigned : ℕ → List Sign → List ℕ → List ℕ → Type 0 where
  plain : (from : ℕ) (text : List ℕ) → IsSigned from [] text text
  signed : (from : ℕ) (s : Sign) (ss : List Sign) (before text out : List ℕ) → (from ≤ s.at → s.at ≤ from + length (before ++ text) → s.at ≡ from + length before) → IsSigned (from + length before) ss text out
      → IsSigned from (s ∷ ss) (before ++ text) (before ++ sign_text s.marks.items ++ out)

-- the same where each sign stands where it says
pub data IsMarked : ℕ → List Sign → List ℕ → List ℕ → Type 0 where
  plain : (from : ℕ) (text : List ℕ) → IsMarked from [] text text
  marked : (from : ℕ) (s : Sign) (ss : List Sign) (before text out : List ℕ) → s.at ≡ from + length before → IsMarked (from + length before) ss text out → IsMarked from (s ∷ ss) (before ++ text) (before ++ sign_text s.marks.items ++ out)

-- what is before a sign was added, and the sign
pub record IsPut (text : List ℕ) (from : ℕ) (s : Sign) (old new : List ℕ) (to : ℕ) : Type 0 where
  pub before : List ℕ
  pub left : drop from text ≡ before ++ drop to text
  pub moved : to ≡ from + length before
  pub within : to ≤ length text
  pub placed : from ≤ s.at → s.at ≤ length text → s.at ≡ to
  pub added : new ≡ old ++ before ++ sign_text s.marks.items
