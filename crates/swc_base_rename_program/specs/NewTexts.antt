-- A table of the texts that change.
use Rattle.std.specs.Prelude.{◌≡◌, ℕ, ◌⊎◌, IsTrue, Option, Some, None, List, String}
use Rattle.std.specs.BTreeMap.{BTreeMap}
use Rattle.std.specs.BTreeSet.{BTreeSet, contains_text}
use Rattle.swc_tree_marks.specs.declared.error.PassError.{PassError}
use Rattle.swc_tree_node.specs.declared.node.Node.{Node}
use Rattle.swc_tree_scoping.specs.BoundNames.{Id}
use Rattle.swc_base_rename_analysis.specs.Named.{IsSpent, Named, Renaming}
use Rattle.swc_base_rename_analysis.specs.Preserved.{IsLoose}
use Rattle.swc_base_rename_naming.specs.ByIds.{if_other}
use Rattle.swc_base_rename_naming.specs.Counters.{IsOfMemoryOr, greatest}
use Rattle.swc_base_rename_naming_laws.specs.Rules.{counting}
use Rattle.swc_base_rename_substitution.specs.Names.{found_in}

-- the table has the texts that are other than the ids' own; there is none where no id has a text
abbrev pub IsTableOf : (Id → Option (List ℕ)) → Option (BTreeMap Id (List ℕ)) → Type 0
IsTableOf new_texts None = (x : Id) → new_texts x ≡ None
IsTableOf new_texts (Some m) = (¬ ((x : Id) → new_texts x ≡ None)) × ((x : Id) → found_in m x ≡ if_other x (new_texts x))

-- no new name may be the text: it is that of a loose id of the tree, or among those that are given
abbrev pub IsLeft : {S : Type 0} → Node → BTreeSet (String S) → List ℕ → Type 0
IsLeft t given text = ((x : Id) × (x.0 ≡ text) × IsLoose t x) ⊎ IsTrue (contains_text given text)

-- the table is of the texts that the ids of a tree get
pub record AreNewTexts (r : Renaming) (preserved : List ℕ → Type 0) (t : Node) (table : Option (BTreeMap Id (List ℕ))) : Type 0 where
  pub new_texts : Id → Option (List ℕ)
  pub named : Named t r preserved (counting t r) new_texts
  pub is_table : IsTableOf new_texts table

-- why names may be refused: for want of memory, and where the counters are spent
abbrev pub IsNameRefusal : Renaming → (List ℕ → Type 0) → Node → PassError → Type 0
IsNameRefusal r preserved t = IsOfMemoryOr (IsSpent t r preserved (counting t r) greatest)
