-- The texts that no name may be where something reads names, as far as what was read off the tree goes.
use Rattle.std.specs.Prelude.{◌↔◌, ℕ, Bool, IsTrue, ◌&&◌, ◌||◌, ◌⊎◌, Option, List, String}
use Rattle.std.specs.List.{list_any}
use Rattle.std.specs.HashSet.{HashSet, keys}
use Rattle.std.specs.BTreeMap.{BTreeMap}
use Rattle.std.specs.BTreeSet.{BTreeSet, contains_text}
use Rattle.std.specs.Str.{bytes_eq}
use Rattle.swc_tree_marks.specs.declared.error.PassError.{PassError}
use Rattle.swc_tree_marks.specs.Globals.{Table}
use Rattle.swc_tree_node.specs.declared.node.Node.{Node}
use Rattle.swc_tree_scoping.specs.BoundNames.{Id}
use Rattle.swc_base_rename_analysis.specs.declared.analysis.Analysis.{Analysis}
use Rattle.swc_base_rename_analysis.specs.declared.numbers.Entry.{Entry}
use Rattle.swc_base_rename_analysis.specs.Named.{Named, Renaming}
use Rattle.swc_base_rename_naming_laws.specs.Rules.{counting}
use Rattle.swc_base_rename_program.specs.NewTexts.{IsTableOf}
use Rattle.swc_base_rename_naming.specs.Counters.{IsOfMemoryOr}
use Rattle.swc_base_rename_program.specs.Renamed.{IsPreservedByTop, IsSpentAtTop, IsSpentInUnit, IsTopRenaming, top_context}

-- one of the ids has the text
abbrev pub any_of_text : List Id → List ℕ → Bool
any_of_text ids text = list_any (λ x. bytes_eq x.0 text) ids

-- an id that is bound with just the top mark, or whose text is that of a loose one
abbrev pub leaves_text : ℕ → Analysis → Entry → Bool
leaves_text top a e = (e.is_bound && bytes_eq e.id.1 (top_context top)) || contains_text a.loose e.id.0

abbrev pub is_left_text : {S : Type 0} → ℕ → Analysis → HashSet Id S → List ℕ → Bool
is_left_text top a preserved text = any_of_text (keys preserved) text || list_any (λ e. leaves_text top a e && bytes_eq e.id.0 text) a.ids.items

-- the texts are those that no name may be
abbrev pub AreLeftTexts : {S : Type 0} → ℕ → (Id → Bool) → Node → BTreeSet (String S) → Type 0
AreLeftTexts top preserves t texts = (x : List ℕ) → IsTrue (contains_text texts x) ↔ IsPreservedByTop top t preserves x

-- the table is of the names of the program
pub record IsTopTable (table : Table) (top : ℕ) (r : Renaming) (t : Node) (names : Option (BTreeMap Id (List ℕ))) : Type 0 where
  pub kept : Renaming
  pub is_kept : IsTopRenaming table top r kept
  pub new_texts : Id → Option (List ℕ)
  pub named : Named t kept (IsPreservedByTop top t r.preserves) (counting t r) new_texts
  pub is_table : IsTableOf new_texts names

-- why names are refused to a program in which something reads names
abbrev pub IsTopRefusal : Table → ℕ → Renaming → Node → PassError → Type 0
IsTopRefusal table top r t = IsOfMemoryOr (IsSpentAtTop table top r t)

abbrev pub IsUnitsRefusal : Table → ℕ → Renaming → Node → PassError → Type 0
IsUnitsRefusal table top r t = IsOfMemoryOr (IsSpentAtTop table top r t ⊎ IsSpentInUnit top r t)
