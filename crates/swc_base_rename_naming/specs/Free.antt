-- The first free text.
use Rattle.std.specs.Prelude.{◌≡◌, ℕ, ◌+◌, ◌<◌, ◌≤◌, Bool, true, false, List}
use Rattle.std.specs.List.{list_any}
use Rattle.std.specs.Str.{bytes_eq}
use Rattle.swc_tree_marks.specs.declared.error.PassError.{PassError}
use Rattle.swc_base_rename_naming.specs.Counters.{IsOfMemoryOr, greatest}

-- the texts of an id at each counter
abbrev pub Texts : Type 0
Texts = ℕ → List ℕ

-- which texts are taken
abbrev pub Test : Type 0
Test = List ℕ → Bool

-- each counter from the start and below the end has a text that is taken
abbrev pub AllTaken : Texts → Test → ℕ → ℕ → Type 0
AllTaken text taken start end = (k : ℕ) → start ≤ k → k < end → taken (text k) ≡ true

-- the counter is the least from the start on whose text is free, and below the greatest
pub record IsLeastFree (text : Texts) (taken : Test) (start counter : ℕ) : Type 0 where
  pub from : start ≤ counter
  pub below : counter < greatest
  pub free : taken (text counter) ≡ false
  pub least : AllTaken text taken start counter

-- a search from a counter on finds the text of the least free counter, and leaves the counter one past that
pub record FindsFree (text : Texts) (taken : Test) (start end : ℕ) (found : List ℕ) : Type 0 where
  pub counter : ℕ
  pub least : IsLeastFree text taken start counter
  pub is_found : found ≡ text counter
  pub past : end ≡ counter + 1

-- a search is refused for want of memory, or where no counter from the start and below the greatest has a free text
abbrev pub IsSearchRefusal : Texts → Test → ℕ → PassError → Type 0
IsSearchRefusal text taken start = IsOfMemoryOr (AllTaken text taken start greatest)

-- the list has each text that is taken
abbrev pub Covers : List (List ℕ) → Test → Type 0
Covers texts taken = (x : List ℕ) → taken x ≡ true → list_any (bytes_eq x) texts ≡ true
