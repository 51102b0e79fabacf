-- What a renamer whose preserved ids keep apart makes of a program is one, but for names, with each source that the program could be resolved from; hygiene is such a renamer.
use Rattle.std.specs.Prelude.{ℕ, IsTrue, Contains}
use Rattle.swc_tree_marks.specs.Globals.{Table, numbers}
use Rattle.swc_tree_node.specs.declared.slot.Slot.{Slot}
use Rattle.swc_tree_node.specs.declared.node.Node.{Node}
use Rattle.swc_tree_node.specs.Fits.{Fits}
use Rattle.swc_tree_scoping.specs.Resolved.{Resolved}
use Rattle.swc_tree_scoping.specs.WellScoped.{IsClean, NoCaughtVariable, WellScoped}
use Rattle.swc_tree_renaming.specs.Apart.{IsPlainIfScript, MeanTheirIds, is_goal}
use Rattle.swc_tree_grammar.specs.Normal.{normal_form}
use Rattle.swc_tree_grammar.specs.Writable.{Writable}
use Rattle.swc_base_rename_substitution.specs.declared.config.Config.{Config}
use Rattle.swc_base_renaming_laws.specs.Lower.swc_base_rename_program.specs.Renamed.{IsHygienic}
use Rattle.swc_base_rename_analysis.specs.Named.{Renaming}
use Rattle.swc_base_rename_scoped_laws.specs.Laws.{KeepsApart}
use Rattle.swc_base_renaming_laws.specs.Hygiene.{IsFinishable}
use Rattle.swc_base_renaming_laws.specs.Renamers.{IsRenamedAndCleared, SparesIfScript}
use Rattle.swc_base_renaming_laws.specs.Ids.{IsWrittenAs}
use Rattle.swc_base_alpha_laws.specs.Alpha.{AlphaEquivalent}

-- the program is what a resolver may answer to a source without contexts, in which no `var` declares a catch parameter's name again;
-- its table knows the mark of free names
pub record ComesFrom (source program : Node) : Type 0 where
  pub unresolved : ℕ
  pub top : ℕ
  pub old : Table
  pub new : Table
  pub clean : IsClean source
  pub uncaught : NoCaughtVariable source
  pub known : Contains (numbers old) unresolved
  pub resolved : Resolved unresolved top old new source program

-- no variable of the normal form of such a source is caught either, where the program can be written down
abbrev pub NormalFormsCatchNone : Type 0
NormalFormsCatchNone = (goal : Slot) (source program : Node) → IsTrue (is_goal goal) → Fits program goal → Writable program → IsPlainIfScript program → ComesFrom source program → NoCaughtVariable (normal_form source)

-- The names of the source's normal form mean the ids that the resolver found: two of them have one text and one scope, or one text
-- and no scope, exactly if the program has one id for them.
abbrev pub NormalNamesMeanTheirIds : Type 0
NormalNamesMeanTheirIds = (goal : Slot) (source program : Node) → IsTrue (is_goal goal) → Fits program goal → Writable program → IsPlainIfScript program → ComesFrom source program
    → MeanTheirIds (normal_form source) (normal_form program)

-- Each way to write down what such a renamer made of a well-scoped program that can be finished is one, but for names, with each source
-- that the program comes from, if it gives no name of a script the text of a global value.
abbrev pub RenamersKeepSources : Type 0
RenamersKeepSources = (r : Renaming) (table : Table) (config : Config) (goal : Slot) (source before middle answer : Node) → KeepsApart r before → SparesIfScript r before → IsTrue (is_goal goal) → Fits before goal → IsFinishable config before
    → IsPlainIfScript before → WellScoped before → IsRenamedAndCleared table config r before middle → IsWrittenAs goal middle answer → ComesFrom source before → AlphaEquivalent source answer

-- Hygiene is such a renamer.
abbrev pub HygieneKeepsSources : Type 0
HygieneKeepsSources = (table : Table) (config : Config) (goal : Slot) (source before middle answer : Node) → IsTrue (is_goal goal) → Fits before goal → IsFinishable config before → IsPlainIfScript before → WellScoped before
    → IsHygienic table config before middle → IsWrittenAs goal middle answer → ComesFrom source before → AlphaEquivalent source answer
