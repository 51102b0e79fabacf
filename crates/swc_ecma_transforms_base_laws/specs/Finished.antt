-- What hygiene and then the fixer keep of a program.
use Rattle.std.specs.Prelude.{◌≡◌, ℕ, true, IsTrue, List}
use Rattle.swc_tree_marks.specs.Globals.{Table}
use Rattle.swc_tree_node.specs.declared.node.Node.{Node}
use Rattle.swc_tree_node.specs.declared.slot.Slot.{Slot}
use Rattle.swc_tree_node.specs.Fits.{Fits}
use Rattle.swc_tree_scoping.specs.Resolved.{Resolved}
use Rattle.swc_tree_scoping.specs.WellScoped.{WellScoped}
use Rattle.swc_tree_renaming.specs.Apart.{IsPlainIfScript, Knows, MeanTheirIds, SameIds, is_goal}
use Rattle.swc_tree_grammar.specs.Due.{Places}
use Rattle.swc_tree_grammar.specs.Fixed.{fixed}
use Rattle.swc_tree_grammar.specs.Grammar.{FitsGrammar}
use Rattle.swc_tree_grammar.specs.Normal.{normal_form}
use Rattle.swc_tree_grammar.specs.Same.{SameButForBoundNames}
use Rattle.swc_tree_grammar.specs.Targets.{all_bare}
use Rattle.swc_tree_grammar.specs.Writable.{Writable}
use Rattle.swc_base_rename_substitution.specs.declared.config.Config.{Config}
use Rattle.swc_base_rename_program.specs.Renamed.{IsHygienic}
use Rattle.swc_base_rename_laws.specs.NewNames.{SameButForNames}
use Rattle.swc_base_renaming_laws.specs.Hygiene.{IsFinishable}
use Rattle.swc_base_alpha_laws.specs.Alpha.{AlphaEquivalent}
use Rattle.swc_ecma_transforms_base_laws.specs.SourceNames.{ComesFrom}

-- the answer can be written down, the grammar derives it, and it has the normal form of the program but for the names that the
-- program binds
pub record KeepsProgram (before after : Node) : Type 0 where
  pub writable : Writable after
  pub derived : FitsGrammar after
  pub normal_form : SameButForBoundNames before after

-- hygiene and then the fixer keep such a program, wherever the fixer puts its pairs
abbrev pub FinishingKeepsPrograms : Type 0
FinishingKeepsPrograms = (table : Table) (config : Config) (place : Places) (goal : Slot) (before middle : Node) → IsTrue (is_goal goal) → Fits before goal → IsFinishable config before
    → IsHygienic table config before middle → KeepsProgram before (fixed place middle)

-- all else of its normal form stays, each identifier where it stood in the source
abbrev pub FinishingKeepsSpans : Type 0
FinishingKeepsSpans = (table : Table) (config : Config) (place : Places) (goal : Slot) (before middle : Node) → IsTrue (is_goal goal) → Fits before goal → IsFinishable config before
    → IsHygienic table config before middle → SameButForNames (normal_form before) (normal_form (fixed place middle))

-- and the fixer does not refuse what hygiene made of it for a target that takes no value
abbrev pub FinishingMeetsNoTarget : Type 0
FinishingMeetsNoTarget = (table : Table) (config : Config) (goal : Slot) (before middle : Node) → IsTrue (is_goal goal) → Fits before goal → IsFinishable config before
    → IsHygienic table config before middle → all_bare middle ≡ true

-- Of a well-scoped program the answer, resolved with any mark that is known for free names, gives two kept names one id exactly
-- if the program did.
abbrev pub FinishingKeepsIds : Type 0
FinishingKeepsIds = (table : Table) (config : Config) (place : Places) (goal : Slot) (before middle u : Node) (unresolved top : ℕ) (old new : List (ℕ × ℕ)) → IsTrue (is_goal goal) → Fits before goal → IsFinishable config before
    → IsPlainIfScript before → WellScoped before → IsHygienic table config before middle → Knows old unresolved → Resolved unresolved top old new (fixed place middle) u
    → SameIds (normal_form before) (normal_form u)

-- And by the texts and scopes of the answer alone, two kept names mean one thing exactly if the program had one id for them.
abbrev pub FinishingKeepsMeanings : Type 0
FinishingKeepsMeanings = (table : Table) (config : Config) (place : Places) (goal : Slot) (before middle : Node) → IsTrue (is_goal goal) → Fits before goal → IsFinishable config before → IsPlainIfScript before → WellScoped before
    → IsHygienic table config before middle → MeanTheirIds (normal_form (fixed place middle)) (normal_form before)

-- And it is the same program, but for names, as each source that the program comes from.
abbrev pub FinishingKeepsSources : Type 0
FinishingKeepsSources = (table : Table) (config : Config) (place : Places) (goal : Slot) (source before middle : Node) → IsTrue (is_goal goal) → Fits before goal → IsFinishable config before → IsPlainIfScript before → WellScoped before
    → IsHygienic table config before middle → ComesFrom source before → AlphaEquivalent source (fixed place middle)
