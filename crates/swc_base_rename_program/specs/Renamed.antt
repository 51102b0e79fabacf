-- What a renamer makes of a tree: the map is the one that is named, and the tree has its names by it. Where something in the
-- tree reads names as it runs, names that it may read stay, and outermost units without such a reader are named alone.
use Rattle.std.specs.Prelude.{◌≡◌, ◌↔◌, ℕ, zero, suc, ◌⊎◌, Bool, true, false, IsTrue, Option, Some, None, option_map, List, [], ◌∷◌}
use Rattle.swc_tree_marks.specs.declared.error.PassError.{PassError}
use Rattle.swc_tree_node.specs.declared.node.Node.{Node}
use Rattle.swc_tree_marks.specs.Contexts.{outer_of}
use Rattle.swc_tree_marks.specs.Globals.{IsDescendant, Table}
use Rattle.swc_tree_scoping.specs.BoundNames.{Id}
use Rattle.swc_tree_scoping.specs.Places.{Path}
use Rattle.swc_tree_scoping.specs.Readings.{by_texts}
use Rattle.swc_base_rename_analysis.specs.Ids.{IsBound}
use Rattle.swc_base_rename_analysis.specs.Named.{IsSpent, Named, Renaming}
use Rattle.swc_base_rename_analysis.specs.Preserved.{IsPreserved}
use Rattle.swc_base_rename_naming.specs.Counters.{IsOfMemoryOr, greatest}
use Rattle.swc_base_rename_naming.specs.Texts.{numbered}
use Rattle.swc_base_rename_naming_laws.specs.Rules.{counting}
use Rattle.swc_base_rename_substitution.specs.declared.config.Config.{Config}
use Rattle.swc_base_rename_substitution.specs.Names.{if_other_text}
use Rattle.swc_base_rename_substitution.specs.Substituted.{Substituted}
use Rattle.swc_base_rename_units.specs.Eval.{HasEval}
use Rattle.swc_base_rename_units.specs.Units.{HasUnits, IsOutermost}
use Rattle.swc_base_rename_program.specs.declared.mode.Mode.{Mode}

-- a renamer of these texts and settings, which preserves these ids
abbrev pub renaming : (Id → ℕ → List ℕ) → Mode → (Id → Bool) → Renaming
renaming text mode preserves = record { text = text; mangles = mode.mangles; resets = mode.resets; preserves = preserves }

-- the new id of an id, where the map has another text for it; a new text comes with the empty context
abbrev pub new_id_by : (Id → Option (List ℕ)) → Id → Option Id
new_id_by new_texts x = if_other_text x (option_map (λ text. (text, [])) (new_texts x))

-- a tree has its names by a map; one that has no ids leaves it as it is, with the names that classes keep
pub record IsGiven (new_texts : Id → Option (List ℕ)) (keeps : Bool) (before after : Node) : Type 0 where
  pub none : ((x : Id) → new_texts x ≡ None) → after ≡ before
  pub some : (x : Id) (text : List ℕ) → new_texts x ≡ Some text → Substituted (new_id_by new_texts) keeps before after

-- what a renamer makes of a tree where no name may be one of the preserved texts
pub record HasNames (r : Renaming) (preserved : List ℕ → Type 0) (keeps : Bool) (before after : Node) : Type 0 where
  pub new_texts : Id → Option (List ℕ)
  pub named : Named before r preserved (counting before r) new_texts
  pub given : IsGiven new_texts keeps before after

-- ... and where nothing in the tree reads names; `keeps` says whether classes keep their names
abbrev pub IsRenamed : Renaming → Bool → Node → Node → Type 0
IsRenamed r keeps before after = HasNames r (IsPreserved before r.preserves) keeps before after

-- The other case goes by the top mark, and by the table that says which marks descend from it.

-- the context of what is bound with the top mark alone, or with no mark where that is the root
abbrev pub top_context : ℕ → List ℕ
top_context zero = []
top_context (suc n) = suc n ∷ []

-- what no name may be: the preserved texts of the program, and those of ids that are bound with just the top mark
abbrev pub IsPreservedByTop : ℕ → Node → (Id → Bool) → List ℕ → Type 0
IsPreservedByTop top t preserves text = IsPreserved t preserves text ⊎ ((x : Id) × (x.0 ≡ text) × (x.1 ≡ top_context top) × IsBound t x)

-- the renaming of the program: ids whose outer mark descends from the top mark keep their texts too
pub record IsTopRenaming (table : Table) (top : ℕ) (r kept : Renaming) : Type 0 where
  pub same : kept ≡ record r { preserves = kept.preserves }
  pub keeps : (x : Id) → IsTrue (kept.preserves x) ↔ (IsTrue (r.preserves x) ⊎ IsDescendant table (outer_of x.1) top)

-- what no name of a unit may be: the preserved texts of the program, and its own
abbrev pub IsPreservedInUnit : ℕ → Node → (Id → Bool) → Node → List ℕ → Type 0
IsPreservedInUnit top t preserves unit text = IsPreservedByTop top t preserves text ⊎ IsPreserved unit preserves text

-- the names of the program are chosen first; then each outermost unit without a reader of names is renamed alone, and then
-- the program has its names
pub record IsRenamedByUnits (table : Table) (top : ℕ) (r : Renaming) (keeps : Bool) (before after : Node) : Type 0 where
  pub kept : Renaming
  pub is_kept : IsTopRenaming table top r kept
  pub new_texts : Id → Option (List ℕ)
  pub named : Named before kept (IsPreservedByTop top before r.preserves) (counting before r) new_texts
  pub between : Node
  pub units : HasUnits (λ unit. HasNames r (IsPreservedInUnit top before r.preserves unit) keeps unit) before between
  pub given : IsGiven new_texts keeps between after

-- something reads names, and counts
abbrev pub IsRead : Config → Node → Type 0
IsRead config t = (config.ignore_eval ≡ false) × HasEval t

-- what a renamer makes of a tree
pub record IsRenamedBy (table : Table) (config : Config) (r : Renaming) (before after : Node) : Type 0 where
  pub whole : ¬ IsRead config before → IsRenamed r config.keep_class_names before after
  pub by_units : IsRead config before → IsRenamedByUnits table config.top_level_mark r config.keep_class_names before after

-- the counters are spent at an id of the program, or at one of an outermost unit without a reader of names
pub record IsSpentAtTop (table : Table) (top : ℕ) (r : Renaming) (t : Node) : Type 0 where
  pub kept : Renaming
  pub is_kept : IsTopRenaming table top r kept
  pub spent : IsSpent t kept (IsPreservedByTop top t r.preserves) (counting t r) greatest

abbrev pub IsSpentInUnit : ℕ → Renaming → Node → Type 0
IsSpentInUnit top r t = (p : Path) × (unit : Node) × IsOutermost t p unit × IsSpent unit r (IsPreservedInUnit top t r.preserves unit) (counting unit r) greatest

pub record IsSpentBy (table : Table) (config : Config) (r : Renaming) (t : Node) : Type 0 where
  pub whole : ¬ IsRead config t → IsSpent t r (IsPreserved t r.preserves) (counting t r) greatest
  pub by_units : IsRead config t → IsSpentAtTop table config.top_level_mark r t ⊎ IsSpentInUnit config.top_level_mark r t

-- why it may be refused: for want of memory, and where the counters are spent
abbrev pub IsRenameRefusal : Table → Config → Renaming → Node → PassError → Type 0
IsRenameRefusal table config r t = IsOfMemoryOr (IsSpentBy table config r t)

-- the renamer of hygiene: an id's own text at counter 0, and then the text followed by the counter
abbrev pub hygiene_renaming : Renaming
hygiene_renaming = record { text = λ x n. numbered x.0 n; mangles = false; resets = true; preserves = λ x. false }

-- what hygiene makes of a tree: names are given, and then each context is empty
abbrev pub IsHygienic : Table → Config → Node → Node → Type 0
IsHygienic table config before after = (given : Node) × IsRenamedBy table config hygiene_renaming before given × (after ≡ by_texts given)
