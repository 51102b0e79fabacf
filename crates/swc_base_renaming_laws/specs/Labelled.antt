-- The names of what the fixer makes of a program with new names: they are names of the program.
use Rattle.std.specs.Prelude.{◌≡◌, ℕ, false, Option, IsTrue, List, Contains}
use Rattle.swc_tree_marks.specs.Globals.{Table, numbers}
use Rattle.swc_tree_marks.specs.declared.ident.Ident.{Ident}
use Rattle.swc_tree_node.specs.declared.slot.Slot.{Slot}
use Rattle.swc_tree_node.specs.declared.node.Node.{Node}
use Rattle.swc_tree_node.specs.Fits.{Fits}
use Rattle.swc_tree_scoping.specs.Places.{Path}
use Rattle.swc_tree_scoping.specs.Readings.{by_texts}
use Rattle.swc_tree_scoping.specs.Resolved.{Resolved}
use Rattle.swc_tree_scoping.specs.WellScoped.{NoEarlyErrorOfNames, WellScoped}
use Rattle.swc_tree_renaming.specs.Apart.{IsPlainIfScript, MeanTheirIds, NameAt, SameIds, is_goal}
use Rattle.swc_tree_grammar.specs.Due.{Places}
use Rattle.swc_tree_grammar.specs.Fixed.{fixed}
use Rattle.swc_tree_grammar.specs.Writable.{is_writable}
use Rattle.swc_tree_sites.specs.Smaller.{IsLeftOf}
use Rattle.swc_base_rename_substitution.specs.Identifiers.{Changes}
use Rattle.swc_base_rename_substitution.specs.Names.{Id}
use Rattle.swc_base_rename_substitution.specs.Substituted.{Substituted}
use Rattle.swc_base_rename_analysis.specs.Named.{Named, all_count}
use Rattle.swc_base_rename_analysis.specs.Preserved.{IsLoose, IsPreserved}
use Rattle.swc_base_rename_program.specs.Renamed.{hygiene_renaming}
use Rattle.swc_base_renaming_laws.specs.Ids.{IsSettledIfScript}
use Rattle.swc_base_renaming_laws.specs.Contexts.{id_of_label, labelled_changes}
use Rattle.swc_base_renaming_laws.specs.LabelledLabels.{KeepsContexts, by_contexts, labelled, text_of_label, unlabelled}

-- a program of the goal that can be written down; if it is a script, no plain function stands in a block of sloppy code of it and no label
-- names a function
pub record IsWrittenOf (goal : Slot) (t : Node) : Type 0 where
  pub fits : Fits t goal
  pub writable : IsTrue (is_writable t)
  pub settled : IsSettledIfScript t

-- Such a program gets new names, and still is one; the fixer then makes of it what is left of the program, where names are told apart by their
-- contexts: new ids have those of the old ones.
abbrev pub FixedNamesAreLeft : Type 0
FixedNamesAreLeft = (m : Changes) (name : List ℕ → List ℕ) (place : Places) (goal : Slot) (t u : Node) → KeepsContexts m → IsTrue (is_goal goal) → IsWrittenOf goal t
    → Substituted m false t u → IsWrittenOf goal u → IsLeftOf (by_contexts name (fixed place u)) (by_contexts name t)

-- a program that can be written down, in which each id has one scope; if it is a script, a plain one
pub record IsReady (goal : Slot) (t : Node) : Type 0 where
  pub program : IsTrue (is_goal goal)
  pub fits : Fits t goal
  pub writable : IsTrue (is_writable t)
  pub plain : IsPlainIfScript t
  pub scoped : WellScoped t

-- what the fixer makes of a program with labels that gets the texts of hygiene
pub record HasNewLabels (goal : Slot) (before labels : Node) : Type 0 where
  pub new_texts : Id → Option (List ℕ)
  pub named : Named before hygiene_renaming (IsPreserved before hygiene_renaming.preserves) all_count new_texts
  pub place : Places
  pub given : Node
  pub substituted : Substituted (labelled_changes new_texts) false (labelled before) given
  pub written : IsWrittenOf goal given
  pub fixed_so : labels ≡ fixed place given

-- each name of it has the text that its label's id gets
abbrev pub LabelsTellTexts : Type 0
LabelsTellTexts = (goal : Slot) (before labels : Node) → IsReady goal before → (h : HasNewLabels goal before labels) → (p : Path) (i : Ident) → NameAt labels p i → i.sym ≡ text_of_label h.new_texts i.ctxt

-- without its labels, two names of it have one text and one scope, or one text and no scope, exactly if they had one label
abbrev pub LabelsAreMeant : Type 0
LabelsAreMeant = (goal : Slot) (before labels : Node) → IsReady goal before → HasNewLabels goal before labels → MeanTheirIds (by_texts labels) (unlabelled labels)

-- it is resolved without its labels; if it is a script, it is a plain one then
pub record IsResolvedSo (labels u : Node) : Type 0 where
  pub plain : IsPlainIfScript (by_texts labels)
  pub fair : NoEarlyErrorOfNames (by_texts labels)
  pub unresolved : ℕ
  pub top : ℕ
  pub old : Table
  pub new : Table
  pub known : Contains (numbers old) unresolved
  pub resolved : Resolved unresolved top old new (by_texts labels) u

-- then two names have one id exactly if they had one label
abbrev pub LabelsAreIds : Type 0
LabelsAreIds = (goal : Slot) (before labels u : Node) → IsReady goal before → HasNewLabels goal before labels → IsResolvedSo labels u → SameIds (unlabelled labels) u

-- the name at a path has a label whose id was loose
pub record WasLoose (before labels : Node) (p : Path) : Type 0 where
  pub name : Ident
  pub stands : NameAt labels p name
  pub loose : IsLoose before (id_of_label name.ctxt)

-- and ids that are loose have labels of ids that were
abbrev pub LooseNamesWereLoose : Type 0
LooseNamesWereLoose = (goal : Slot) (before labels u : Node) → IsReady goal before → HasNewLabels goal before labels → IsResolvedSo labels u → (y : Id) (l : IsLoose u y) → WasLoose before labels l.path
