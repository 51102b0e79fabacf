-- What a renamer keeps of a program in which nothing reads names and where classes don't keep theirs; hygiene is one.
use Rattle.std.specs.Prelude.{◌≡◌, false, IsTrue}
use Rattle.swc_tree_marks.specs.Globals.{Table}
use Rattle.swc_tree_node.specs.declared.node.Node.{Node}
use Rattle.swc_tree_node.specs.declared.slot.Slot.{Slot}
use Rattle.swc_tree_node.specs.Fits.{Fits}
use Rattle.swc_tree_renaming.specs.Apart.{IsSettled, is_goal}
use Rattle.swc_tree_grammar.specs.Same.{SameButForBoundNames}
use Rattle.swc_tree_grammar.specs.Writable.{Writable}
use Rattle.swc_base_rename_substitution.specs.declared.config.Config.{Config}
use Rattle.swc_base_rename_analysis.specs.Named.{Renaming}
use Rattle.swc_base_rename_program.specs.Renamed.{IsHygienic, IsRead, hygiene_renaming}
use Rattle.swc_base_renaming_laws.specs.Renamers.{IsLawful, IsRenamedAndCleared, KeepsTopApart, SparesGlobalValues}

-- nothing reads names, or it doesn't count, and classes don't keep their names
pub record IsPlain (config : Config) (t : Node) : Type 0 where
  pub renames_classes : config.keep_class_names ≡ false
  pub unread : ¬ IsRead config t

-- a program that can be written down, in which nothing reads names and where classes don't keep theirs
pub record IsFinishable (config : Config) (t : Node) : Type 0 where
  pub plain : IsPlain config t
  pub writable : Writable t

-- whichever renamer gives the names, and whatever it preserves: what is a program of the table still is one, of its goal
abbrev pub RenamingStaysFitting : Type 0
RenamingStaysFitting = (r : Renaming) (table : Table) (config : Config) (goal : Slot) (before after : Node) → IsTrue (is_goal goal) → IsPlain config before → Fits before goal
    → IsRenamedAndCleared table config r before after → Fits after goal

-- if it is lawful, a tree that fits some place, as each module and each script does, and can be written down still can
abbrev pub RenamingStaysWritable : Type 0
RenamingStaysWritable = (r : Renaming) (table : Table) (config : Config) (place : Slot) (before after : Node) → IsLawful r → IsPlain config before → Fits before place → Writable before
    → IsRenamedAndCleared table config r before after → Writable after

-- ... and a plain function stands in a block of sloppy code, and a label names a function, only where one did
abbrev pub RenamingStaysSettled : Type 0
RenamingStaysSettled = (r : Renaming) (table : Table) (config : Config) (goal : Slot) (before after : Node) → IsLawful r → IsTrue (is_goal goal) → IsPlain config before → Fits before goal
    → IsRenamedAndCleared table config r before after → IsSettled before → IsSettled after

-- a program that can be written down has the same normal form but for the names that it binds, where the preserved ids that a module
-- binds at its top are apart
abbrev pub RenamingKeepsNormalForm : Type 0
RenamingKeepsNormalForm = (r : Renaming) (table : Table) (config : Config) (goal : Slot) (before after : Node) → KeepsTopApart r before → IsTrue (is_goal goal) → IsPlain config before → Fits before goal → Writable before
    → IsRenamedAndCleared table config r before after → SameButForBoundNames before after

-- hygiene is lawful
abbrev pub HygieneIsLawful : Type 0
HygieneIsLawful = IsLawful hygiene_renaming

abbrev pub HygieneSparesGlobalValues : Type 0
HygieneSparesGlobalValues = SparesGlobalValues hygiene_renaming

-- so of hygiene: what is a program of the table still is one, of its goal
abbrev pub HygieneStaysFitting : Type 0
HygieneStaysFitting = (table : Table) (config : Config) (goal : Slot) (before after : Node) → IsTrue (is_goal goal) → IsPlain config before → Fits before goal → IsHygienic table config before after → Fits after goal

-- a tree that fits some place, as each module and each script does, and can be written down still can
abbrev pub HygieneStaysWritable : Type 0
HygieneStaysWritable = (table : Table) (config : Config) (place : Slot) (before after : Node) → IsPlain config before → Fits before place → Writable before → IsHygienic table config before after → Writable after

-- a plain function stands in a block of sloppy code, and a label names a function, only where one did
abbrev pub HygieneStaysSettled : Type 0
HygieneStaysSettled = (table : Table) (config : Config) (goal : Slot) (before after : Node) → IsTrue (is_goal goal) → IsPlain config before → Fits before goal → IsHygienic table config before after → IsSettled before → IsSettled after

-- a program that can be written down has the same normal form but for the names that it binds
abbrev pub HygieneKeepsNormalForm : Type 0
HygieneKeepsNormalForm = (table : Table) (config : Config) (goal : Slot) (before after : Node) → IsTrue (is_goal goal) → IsPlain config before → Fits before goal → Writable before
    → IsHygienic table config before after → SameButForBoundNames before after
