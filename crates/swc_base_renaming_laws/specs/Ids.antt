-- A renamer whose preserved ids are apart keeps what is one name and what is two; hygiene is one.
use Rattle.std.specs.Prelude.{ℕ, IsTrue, List}
use Rattle.swc_tree_marks.specs.Globals.{Table}
use Rattle.swc_tree_node.specs.declared.slot.Slot.{Slot}
use Rattle.swc_tree_node.specs.declared.node.Node.{Node}
use Rattle.swc_tree_node.specs.Fits.{Fits}
use Rattle.swc_tree_scoping.specs.Resolved.{Resolved, is_script}
use Rattle.swc_tree_scoping.specs.WellScoped.{IsClean, WellScoped}
use Rattle.swc_tree_renaming.specs.Apart.{IsPlainIfScript, IsSettled, Knows, MeanTheirIds, SameIds, is_goal}
use Rattle.swc_tree_grammar.specs.Normal.{normal_form}
use Rattle.swc_tree_grammar.specs.Spanless.{SameButForSpans}
use Rattle.swc_tree_grammar.specs.Writable.{Writable}
use Rattle.swc_base_rename_substitution.specs.declared.config.Config.{Config}
use Rattle.swc_base_rename_analysis.specs.Named.{Renaming}
use Rattle.swc_base_rename_program.specs.Renamed.{IsHygienic}
use Rattle.swc_base_renaming_laws.specs.Hygiene.{IsFinishable}
use Rattle.swc_base_renaming_laws.specs.Renamers.{IsRenamedAndCleared, SparesIfScript}
use Rattle.swc_base_rename_scoped_laws.specs.Laws.{KeepsApart}

-- a module, or a script where no plain function stands in a block of sloppy code and no label names a function
abbrev pub IsSettledIfScript : Node → Type 0
IsSettledIfScript t = IsTrue (is_script t) → IsSettled t

-- such a program of the goal without contexts that can be written down, and that has the normal form of another but for spans
pub record IsWrittenAs (goal : Slot) (t answer : Node) : Type 0 where
  pub fits : Fits answer goal
  pub clean : IsClean answer
  pub settled : IsSettledIfScript answer
  pub writable : Writable answer
  pub normal : SameButForSpans (normal_form answer) (normal_form t)

-- Each way to write down what a renamer made of a well-scoped program that can be finished, resolved with any mark that is known for free names,
-- gives two kept names one id exactly if the program did.
abbrev pub RenamersKeepIds : Type 0
RenamersKeepIds = (r : Renaming) (table : Table) (config : Config) (goal : Slot) (before middle answer u : Node) (unresolved top : ℕ) (old new : List (ℕ × ℕ)) → KeepsApart r before → SparesIfScript r before
    → IsTrue (is_goal goal) → Fits before goal → IsFinishable config before → IsPlainIfScript before → WellScoped before → IsRenamedAndCleared table config r before middle
    → IsWrittenAs goal middle answer → Knows old unresolved → Resolved unresolved top old new answer u → SameIds (normal_form before) (normal_form u)

-- ... and by the texts and scopes of what is written alone, two kept names mean one thing exactly if the program had one id for them
abbrev pub RenamersKeepMeanings : Type 0
RenamersKeepMeanings = (r : Renaming) (table : Table) (config : Config) (goal : Slot) (before middle answer : Node) → KeepsApart r before → IsTrue (is_goal goal) → Fits before goal → IsFinishable config before
    → IsPlainIfScript before → WellScoped before → IsRenamedAndCleared table config r before middle → IsWrittenAs goal middle answer → MeanTheirIds (normal_form answer) (normal_form before)

-- Each way to write down what hygiene made of a well-scoped program that can be finished, resolved with any mark that is known for free names, gives
-- two kept names one id exactly if the program did.
abbrev pub HygieneKeepsIds : Type 0
HygieneKeepsIds = (table : Table) (config : Config) (goal : Slot) (before middle answer u : Node) (unresolved top : ℕ) (old new : List (ℕ × ℕ)) → IsTrue (is_goal goal) → Fits before goal → IsFinishable config before → IsPlainIfScript before → WellScoped before → IsHygienic table config before middle
    → IsWrittenAs goal middle answer → Knows old unresolved → Resolved unresolved top old new answer u → SameIds (normal_form before) (normal_form u)

-- ... and by the texts and scopes of what is written alone, two kept names mean one thing exactly if the program had one id for them
abbrev pub HygieneKeepsMeanings : Type 0
HygieneKeepsMeanings = (table : Table) (config : Config) (goal : Slot) (before middle answer : Node) → IsTrue (is_goal goal) → Fits before goal → IsFinishable config before → IsPlainIfScript before → WellScoped before → IsHygienic table config before middle
    → IsWrittenAs goal middle answer → MeanTheirIds (normal_form answer) (normal_form before)
