-- What is promised of a program whose names and parentheses are set for a reader.
use Rattle.std.specs.Prelude.{◌≡◌, ◌⊎◌, ℕ, Contains, true, IsTrue}
use Rattle.swc_tree_marks.specs.declared.error.PassError.{PassError}
use Rattle.swc_tree_marks.specs.declared.error.PassError.TheVariants as error
use Rattle.swc_tree_marks.specs.Globals.{Table, numbers}
use Rattle.swc_tree_node.specs.declared.node.Node.{Node}
use Rattle.swc_tree_node.specs.declared.slot.Slot.{Slot}
use Rattle.swc_tree_node.specs.Fits.{Fits}
use Rattle.swc_tree_scoping.specs.Resolved.{Resolved}
use Rattle.swc_tree_scoping.specs.WellScoped.{NoEarlyErrorOfNames, WellScoped}
use Rattle.swc_tree_renaming.specs.Apart.{IsPlainIfScript, Knows, MeanTheirIds, SameIds, is_goal}
use Rattle.swc_tree_grammar.specs.Due.{Places}
use Rattle.swc_tree_grammar.specs.Fixed.{fixed}
use Rattle.swc_tree_grammar.specs.Grammar.{FitsGrammar}
use Rattle.swc_tree_grammar.specs.Normal.{normal_form}
use Rattle.swc_tree_grammar.specs.Normal as normal
use Rattle.swc_tree_grammar.specs.Same.{SameButForBoundNames}
use Rattle.swc_tree_grammar.specs.Targets.{all_bare}
use Rattle.swc_base_rename_substitution.specs.declared.config.Config.{Config}
use Rattle.swc_base_rename_program.specs.Renamed.{IsHygienic}
use Rattle.swc_base_rename_laws.specs.NewNames.{SameButForNames}
use Rattle.swc_base_renaming_laws.specs.Hygiene.{IsFinishable}
use Rattle.swc_base_alpha_laws.specs.Alpha.{AlphaEquivalent}
use Rattle.swc_ecma_transforms_base_laws.specs.SourceNames.{ComesFrom}
use Rattle.swc_ecma_transforms_base_laws.specs.Sources.{IsSource}

-- however the answer is resolved, where the mark of free names is known, it gives two kept names one id exactly if the program did
abbrev pub KeepsIds : Node → Node → Type 0
KeepsIds before after = (unresolved top : ℕ) (old new : Table) (u : Node) → Knows old unresolved → Resolved unresolved top old new after u → SameIds (normal_form before) (normal_form u)

-- and with no resolver asked: two kept names have one text and one scope, or one text and no scope, exactly if the program had one id for them
abbrev pub KeepsMeanings : Node → Node → Type 0
KeepsMeanings before after = MeanTheirIds (normal_form after) (normal_form before)

-- the grammar derives the answer, it has the normal form of the program but for the names that the program binds, and what is in
-- the normal form stands where it stood in the source, each identifier too
pub record KeepsItsForm (before after : Node) : Type 0 where
  pub derived : FitsGrammar after
  pub normal_form : SameButForBoundNames before after
  pub spans : SameButForNames (normal.normal_form before) (normal.normal_form after)

-- where the program is well-scoped, the answer is the same program, but for names, as each source that it comes from; the grammar
-- derives the answer, it has the normal form of the program but for the names that the program binds, and where the
-- program is well-scoped its names mean what they meant, and no rule for declaring names is broken; what is in the normal form
-- stands where it stood in the source, each identifier too
pub record KeepsItsPromises (before after : Node) : Type 0 where
  pub alpha : WellScoped before → (source : Node) → ComesFrom source before → AlphaEquivalent source after
  pub derived : FitsGrammar after
  pub normal_form : SameButForBoundNames before after
  pub ids : WellScoped before → KeepsIds before after
  pub meanings : WellScoped before → KeepsMeanings before after
  pub no_early_error : WellScoped before → NoEarlyErrorOfNames after
  pub spans : SameButForNames (normal.normal_form before) (normal.normal_form after)

-- the answer is the same program as the source, but for the names that it binds, and the grammar derives it; the names of the source
-- mean the ids that the resolver found, and so do those of the answer, which has no early error of names; what is in the normal form
-- stands where it stood in the source, and in the resolved one
pub record KeepsItsSource (unresolved top : ℕ) (old new : Table) (before after : Node) : Type 0 where
  pub alpha : AlphaEquivalent before after
  pub resolved : Node
  pub meant : Resolved unresolved top old new before resolved
  pub found : MeanTheirIds before resolved
  pub derived : FitsGrammar after
  pub normal_form : SameButForBoundNames before after
  pub ids : KeepsIds resolved after
  pub meanings : KeepsMeanings resolved after
  pub no_early_error : NoEarlyErrorOfNames after
  pub spans : SameButForNames (normal.normal_form before) (normal.normal_form after)
  pub resolved_spans : SameButForNames (normal.normal_form resolved) (normal.normal_form after)

-- there is no other refusal: neither marks nor targets are to blame
abbrev pub IsOfMemoryOrCounters : PassError → Type 0
IsOfMemoryOrCounters e = (e ≡ error.NoMemory) ⊎ (e ≡ error.CounterSpent)

-- hygiene and then the fixer keep the form, wherever the fixer puts its pairs
abbrev pub FinishingKeepsForms : Type 0
FinishingKeepsForms = (table : Table) (config : Config) (place : Places) (goal : Slot) (before middle : Node) → IsTrue (is_goal goal) → Fits before goal → IsFinishable config before
    → IsHygienic table config before middle → KeepsItsForm before (fixed place middle)

-- ... and these promises, of a module, or of a script of which what is asked of scripts holds
abbrev pub FinishingKeepsPromises : Type 0
FinishingKeepsPromises = (table : Table) (config : Config) (place : Places) (goal : Slot) (before middle : Node) → IsTrue (is_goal goal) → Fits before goal → IsFinishable config before → IsPlainIfScript before
    → IsHygienic table config before middle → KeepsItsPromises before (fixed place middle)

-- the form of a source that is resolved first stays too, and the fixer has no target to refuse
abbrev pub ChainingKeepsForms : Type 0
ChainingKeepsForms = (config : Config) (place : Places) (goal : Slot) (unresolved top : ℕ) (old new : Table) (source resolved middle : Node) → IsTrue (is_goal goal) → Fits source goal → IsSource config source
    → Resolved unresolved top old new source resolved → IsHygienic new config resolved middle
    → KeepsItsForm source (fixed place middle) × (all_bare middle ≡ true)

-- ... and what is promised of a source, where the table has the mark of free names
abbrev pub ChainingKeepsSources : Type 0
ChainingKeepsSources = (config : Config) (place : Places) (goal : Slot) (unresolved top : ℕ) (old new : Table) (source resolved middle : Node) → IsTrue (is_goal goal) → Fits source goal → IsSource config source → IsPlainIfScript source
    → Contains (numbers old) unresolved → Resolved unresolved top old new source resolved → IsHygienic new config resolved middle
    → KeepsItsSource unresolved top old new source (fixed place middle) × (all_bare middle ≡ true)
