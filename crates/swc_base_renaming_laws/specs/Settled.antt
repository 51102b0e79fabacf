-- When hygiene leaves the names of a tree as they are.
use Rattle.std.specs.Prelude.{◌≡◌, ◌≢◌, ◌⊎◌, ℕ, IsTrue, Option, Some, List, [], unwrap_or}
use Rattle.swc_tree_node.specs.declared.slot.Slot.{Slot}
use Rattle.swc_tree_node.specs.declared.node.Node.{Node}
use Rattle.swc_tree_node.specs.Fits.{Fits}
use Rattle.swc_tree_scoping.specs.Places.{Path}
use Rattle.swc_tree_scoping.specs.BoundNames.{Id}
use Rattle.swc_tree_scoping.specs.Resolved.{is_script}
use Rattle.swc_tree_scoping.specs.WellScoped.{WellScoped, is_module}
use Rattle.swc_tree_renaming.specs.Apart.{IsPlainProgram}
use Rattle.swc_tree_grammar.specs.Blocks.{with_blocks}
use Rattle.swc_tree_sites.specs.Smaller.{In}
use Rattle.swc_base_rename_analysis.specs.Analysis.{Declares, IsAnalysed, OccursIn}
use Rattle.swc_base_rename_analysis.specs.Named.{Named, all_count}
use Rattle.swc_base_rename_analysis.specs.Preserved.{IsLoose, IsPreserved}
use Rattle.swc_base_rename_program.specs.Renamed.{hygiene_renaming}
use Rattle.swc_base_renaming_laws.specs.Meetings.{met}

-- the text of an id itself, and the one that a map gives it
abbrev pub own_text : Id → List ℕ
own_text x = x.0

abbrev pub given_text : (Id → Option (List ℕ)) → Id → List ℕ
given_text new_texts x = unwrap_or (new_texts x) x.0

-- what hygiene asks of texts: two ids that occur each where the other is declared have different ones, and none that is
-- declared has that of a loose one
pub record ApartWhereMet (t : Node) (text : Id → List ℕ) : Type 0 where
  pub declared : (s p u q : Path) (x y : Id) → Declares t s p x → Declares t u q y → OccursIn t s y → OccursIn t u x → text x ≡ text y → x ≡ y
  pub loose : (s p : Path) (x y : Id) → Declares t s p x → IsLoose t y → text x ≢ y.0

abbrev pub IsHygieneMap : Node → (Id → Option (List ℕ)) → Type 0
IsHygieneMap t new_texts = Named t hygiene_renaming (IsPreserved t hygiene_renaming.preserves) all_count new_texts

-- one scope of the analysis declares an id of a well-scoped plain program
abbrev pub OneScopeDeclares : Type 0
OneScopeDeclares = (t : Node) (place : Slot) → Fits t place → IsPlainProgram t → WellScoped t → (s p u q : Path) (x : Id) → Declares t s p x → Declares t u q x → s ≡ u

-- the texts that hygiene gives the ids of a well-scoped plain program are apart where ids meet
abbrev pub HygieneTellsMetApart : Type 0
HygieneTellsMetApart = (t : Node) (place : Slot) (new_texts : Id → Option (List ℕ)) → Fits t place → IsPlainProgram t → WellScoped t → IsHygieneMap t new_texts → ApartWhereMet t (given_text new_texts)

-- where the texts of a well-scoped tree are apart so, hygiene gives each id its own
abbrev pub HygieneKeepsApart : Type 0
HygieneKeepsApart = (t : Node) (s : Slot) (new_texts : Id → Option (List ℕ)) → Fits t s → WellScoped t → ApartWhereMet t own_text
    → IsHygieneMap t new_texts → (x : Id) (text : List ℕ) → new_texts x ≡ Some text → text ≡ x.0

-- ids that meet are pairs of the fold
abbrev pub MeetingsAreMet : Type 0
MeetingsAreMet = (t : Node) (s p : Path) (x y : Id) → Declares t s p x → OccursIn t s y → In {X = Id × Id} (x, y) (met t).pairs

-- and pairs of the fold are ids that meet
abbrev pub PairsMeet : Type 0
PairsMeet = (t : Node) (x y : Id) → In {X = Id × Id} (x, y) (met t).pairs → IsAnalysed x → IsAnalysed y → (s p : Path) × Declares t s p x × OccursIn t s y

-- a program takes all that is bound in it
abbrev pub ProgramsTakeAll : Type 0
ProgramsTakeAll = (t : Node) → IsTrue (is_module t) ⊎ IsTrue (is_script t) → (met t).pending ≡ []

-- a tree in which a scope takes each binding, with blocks round its branches, has no other pairs
abbrev pub BlocksAddNoPairs : Type 0
BlocksAddNoPairs = (t : Node) → (met t).pending ≡ [] → (z : Id × Id) → In z (met (with_blocks t)).pairs → In z (met t).pairs
