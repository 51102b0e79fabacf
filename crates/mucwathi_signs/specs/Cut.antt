-- Signs cut out of a text.
use Rattle.std.specs.List.{All}
use Rattle.std.specs.Prelude.{◌≡◌, ℕ, ◌-◌, ◌≤◌, List, drop, length, take}
use Rattle.mucwathi_signs.specs.declared.cut.Cut.{Cut}
use Rattle.mucwathi_signs.specs.declared.find.Found.{Found}
use Rattle.mucwathi_signs.specs.Signed.{IsMarked, sign_text}

-- a text has just what is written for marks from one place to another
pub record IsWrittenAt (text : List ℕ) (from to : ℕ) (marks : List ℕ) : Type 0 where
  pub low : from ≤ to
  pub high : to ≤ length text
  pub written : take (to - from) (drop from text) ≡ sign_text marks

-- each of what was found is so written
abbrev pub AreWritten : List ℕ → List Found → Type 0
AreWritten text found = All (λ s. IsWrittenAt text s.from s.to s.marks.items) found

-- the signs of a text are cut out up to a place
pub record IsCutTo (text : List ℕ) (to : ℕ) (cut : Cut) : Type 0 where
  pub within : to ≤ length text
  pub marked : IsMarked 0 cut.signs.items cut.text.items (take to text)
