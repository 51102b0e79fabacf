-- What a lawful renamer and then the fixer answer has no early error of names; hygiene is such a renamer.
use Rattle.std.specs.Prelude.{IsTrue}
use Rattle.swc_tree_marks.specs.Globals.{Table}
use Rattle.swc_tree_node.specs.declared.slot.Slot.{Slot}
use Rattle.swc_tree_node.specs.declared.node.Node.{Node}
use Rattle.swc_tree_node.specs.Fits.{Fits}
use Rattle.swc_tree_scoping.specs.Readings.{by_texts}
use Rattle.swc_tree_scoping.specs.WellScoped.{NoEarlyErrorOfNames, NoEvalOrArguments, NoRedeclaration, WellScoped}
use Rattle.swc_tree_renaming.specs.Apart.{IsPlainIfScript, is_goal}
use Rattle.swc_tree_grammar.specs.Due.{Places}
use Rattle.swc_tree_grammar.specs.Fixed.{fixed}
use Rattle.swc_base_rename_substitution.specs.declared.config.Config.{Config}
use Rattle.swc_base_rename_program.specs.Renamed.{IsHygienic}
use Rattle.swc_base_rename_analysis.specs.Named.{Renaming}
use Rattle.swc_base_renaming_laws.specs.Hygiene.{IsFinishable}
use Rattle.swc_base_renaming_laws.specs.Renamers.{IsLawful, IsRenamedAndCleared}
use Rattle.swc_base_rename_scoped_laws.specs.Laws.{KeepsApart}

-- an answer, read by texts, declares no name against the rules, and neither `eval` nor `arguments`
pub record DeclaresByTheRules (answer : Node) : Type 0 where
  pub no_redeclaration : NoRedeclaration (by_texts answer)
  pub no_eval_or_arguments : NoEvalOrArguments answer

-- so is what a lawful renamer, whose preserved ids keep apart, and then the fixer answer to a well-scoped program that can be finished
abbrev pub RenamedAnswerDeclaresByTheRules : Type 0
RenamedAnswerDeclaresByTheRules = (r : Renaming) (table : Table) (config : Config) (place : Places) (goal : Slot) (before middle : Node) → IsLawful r → KeepsApart r before → IsTrue (is_goal goal) → Fits before goal → IsFinishable config before
    → IsPlainIfScript before → WellScoped before → IsRenamedAndCleared table config r before middle → DeclaresByTheRules (fixed place middle)

-- ... and has no early error of names: what its export lists name is declared, too
abbrev pub RenamedAnswerHasNoEarlyErrorOfNames : Type 0
RenamedAnswerHasNoEarlyErrorOfNames = (r : Renaming) (table : Table) (config : Config) (place : Places) (goal : Slot) (before middle : Node) → IsLawful r → KeepsApart r before → IsTrue (is_goal goal) → Fits before goal → IsFinishable config before
    → IsPlainIfScript before → WellScoped before → IsRenamedAndCleared table config r before middle → NoEarlyErrorOfNames (fixed place middle)

-- hygiene is such a renamer
abbrev pub AnswerDeclaresByTheRules : Type 0
AnswerDeclaresByTheRules = (table : Table) (config : Config) (place : Places) (goal : Slot) (before middle : Node) → IsTrue (is_goal goal) → Fits before goal → IsFinishable config before → IsPlainIfScript before → WellScoped before → IsHygienic table config before middle
    → DeclaresByTheRules (fixed place middle)

abbrev pub AnswerHasNoEarlyErrorOfNames : Type 0
AnswerHasNoEarlyErrorOfNames = (table : Table) (config : Config) (place : Places) (goal : Slot) (before middle : Node) → IsTrue (is_goal goal) → Fits before goal → IsFinishable config before → IsPlainIfScript before → WellScoped before → IsHygienic table config before middle
    → NoEarlyErrorOfNames (fixed place middle)
