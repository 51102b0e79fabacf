-- Texts shown as HTML.
use Rattle.std.specs.List.{list_any}
use Rattle.std.specs.Prelude.{◌≡◌, ◌≢◌, ℕ, Bool, false, ◌==◌, List, [], ◌∷◌, ◌++◌, codes}

-- whether a tag ends among bytes
abbrev pub has_end : List ℕ → Bool
has_end = list_any (λ b. b == 62)

-- HTML shows a text: what stands between its tags, with the entities read, is the text
pub data Shows : List ℕ → List ℕ → Type 0 where
  nothing : Shows [] []
  byte : (b : ℕ) (html text : List ℕ) → b ≢ 38 → b ≢ 60 → Shows html text → Shows (b ∷ html) (b ∷ text)
  and_sign : (html text : List ℕ) → Shows html text → Shows (codes "&amp;" ++ html) (38 ∷ text)
  less : (html text : List ℕ) → Shows html text → Shows (codes "&lt;" ++ html) (60 ∷ text)
  greater : (html text : List ℕ) → Shows html text → Shows (codes "&gt;" ++ html) (62 ∷ text)
  quote : (html text : List ℕ) → Shows html text → Shows (codes "&quot;" ++ html) (34 ∷ text)
  tag : (inside html text : List ℕ) → has_end inside ≡ false → Shows html text → Shows (60 ∷ inside ++ 62 ∷ html) text

-- a page shows the text in its `pre`; the line end right behind that tag is none of it
pub record IsPage (text page : List ℕ) : Type 0 where
  pub before : List ℕ
  pub html : List ℕ
  pub after : List ℕ
  pub whole : page ≡ before ++ (codes "<pre>" ++ (10 ∷ (html ++ (codes "</pre>" ++ after))))
  pub shown : Shows html text
