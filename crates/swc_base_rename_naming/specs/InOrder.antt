-- The names of ids that are given one after the other.
use Rattle.std.specs.Prelude.{◌≡◌, ℕ, ◌+◌, ◌==◌, Bool, true, not, ◌&&◌, ◌||◌, Option, Some, None, List, [], ◌∷◌, ◌++◌, map, if◌then◌else◌}
use Rattle.std.specs.List.{list_any, last_or}
use Rattle.std.specs.Str.{bytes_eq}
use Rattle.swc_tree_marks.specs.declared.error.PassError.{PassError}
use Rattle.swc_base_rename_naming.specs.Counters.{IsOfMemoryOr, greatest}
use Rattle.swc_base_rename_naming.specs.Free.{AllTaken, IsLeastFree}

-- a place that declares an id: the number of its scope, and the number of the id
abbrev pub Site : Type 0
Site = ℕ × ℕ

-- what names go by: the text of an id at a counter, whether the counter goes on within a scope, which ids keep their texts,
-- which texts nobody may get, which ids occur at a scope or below it, and whether names of one scope count at another
pub record Rules : Type 0 where
  pub text : ℕ → ℕ → List ℕ
  pub counter_goes_on : Bool
  pub stays : ℕ → Bool
  pub preserved : List ℕ → Bool
  pub occurs : ℕ → ℕ → Bool
  pub counts : ℕ → ℕ → Bool

-- a site, and the counter that its id took there
abbrev pub Choice : Type 0
Choice = Site × ℕ

-- the id gets its name at the site, where these stand before it: it is the first of its id, which does not keep its text
abbrev pub is_named : Rules → List Site → Site → Bool
is_named r before a = not (r.stays a.1 || list_any (λ b. b.1 == a.1) before)

-- those sites, behind these, at which ids get their names
abbrev pub named_sites : Rules → List Site → List Site → List Site
named_sites r before [] = []
named_sites r before (a ∷ later) = if is_named r before a then a ∷ named_sites r (before ++ a ∷ []) later else named_sites r (before ++ a ∷ []) later

-- the text that a choice gives
abbrev pub chosen_text : Rules → Choice → List ℕ
chosen_text r c = r.text c.0.1 c.1

-- at a scope, a choice has the text, its own scope counts, and its id occurs there or below
abbrev pub holds : Rules → ℕ → List ℕ → Choice → Bool
holds r s x c = r.counts c.0.0 s && (bytes_eq (chosen_text r c) x && r.occurs s c.0.1)

-- a text is taken at a scope, after these choices
abbrev pub is_taken : Rules → List Choice → ℕ → List ℕ → Bool
is_taken r choices s x = r.preserved x || list_any (holds r s x) choices

-- one past the counter of a choice in the scope, else 0
abbrev pub past : ℕ → Option Choice → ℕ
past s None = 0
past s (Some c) = if c.0.0 == s then c.1 + 1 else 0

-- the counter from which an id of a scope starts: 0, or where it goes on one past that of the choice before, if that one is
-- of the same scope
abbrev pub start : Rules → List Choice → ℕ → ℕ
start r choices s = if r.counter_goes_on then past s (last_or None choices) else 0

-- the least counter from the start on whose text is free
abbrev pub IsChosen : Rules → List Choice → Choice → Type 0
IsChosen r before c = IsLeastFree (r.text c.0.1) (is_taken r before c.0.0) (start r before c.0.0) c.1

-- the ids of these sites are named in order, each after the choices before it
pub record AreChosen (r : Rules) (sites : List Site) (choices : List Choice) : Type 0 where
  pub their_sites : map (λ c. c.0) choices ≡ named_sites r [] sites
  pub each : (before after : List Choice) (c : Choice) → choices ≡ before ++ c ∷ after → IsChosen r before c

-- the text of an id, if it has one
abbrev pub name_in : Rules → List Choice → ℕ → Option (List ℕ)
name_in r [] x = None
name_in r (c ∷ choices) x = if c.0.1 == x then Some (chosen_text r c) else name_in r choices x

-- the map has the texts that the ids of these sites get in order, and no others
pub record NamedInOrder (r : Rules) (sites : List Site) (new_texts : ℕ → Option (List ℕ)) : Type 0 where
  pub choices : List Choice
  pub chosen : AreChosen r sites choices
  pub names : (x : ℕ) → new_texts x ≡ name_in r choices x

-- the counters are spent at an id: those before it took theirs, and for it none from the start and below the greatest gives
-- a free text
pub record IsSpent (r : Rules) (sites : List Site) : Type 0 where
  pub before : List Site
  pub site : Site
  pub after : List Site
  pub stands : sites ≡ before ++ site ∷ after
  pub named : is_named r before site ≡ true
  pub choices : List Choice
  pub chosen : AreChosen r before choices
  pub none_free : AllTaken (r.text site.1) (is_taken r choices site.0) (start r choices site.0) greatest

-- names are refused for want of memory, and where the counters are spent
abbrev pub IsRefused : Rules → List Site → PassError → Type 0
IsRefused r sites = IsOfMemoryOr (IsSpent r sites)
