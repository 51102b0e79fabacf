-- What a source is once it is resolved, and what is the same as it then.
use Rattle.std.specs.Prelude.{ℕ, IsTrue, Contains}
use Rattle.swc_tree_marks.specs.Globals.{Table, numbers}
use Rattle.swc_tree_node.specs.declared.slot.Slot.{Slot}
use Rattle.swc_tree_node.specs.declared.node.Node.{Node}
use Rattle.swc_tree_node.specs.Fits.{Fits}
use Rattle.swc_tree_scoping.specs.Resolved.{Resolved}
use Rattle.swc_tree_scoping.specs.WellScoped.{IsClean, NoEarlyErrorOfNames, WellScoped}
use Rattle.swc_tree_renaming.specs.Apart.{IsPlainIfScript, MeanTheirIds, is_goal}
use Rattle.swc_tree_grammar.specs.Normal.{normal_form}
use Rattle.swc_tree_grammar.specs.Same.{SameButForBoundNames}
use Rattle.swc_tree_grammar.specs.Writable.{Writable}
use Rattle.swc_base_rename_substitution.specs.declared.config.Config.{Config}
use Rattle.swc_base_rename_units.specs.Eval.{HasEval}
use Rattle.swc_base_rename_laws.specs.NewNames.{SameButForNames}
use Rattle.swc_base_renaming_laws.specs.Hygiene.{IsFinishable, IsPlain}

-- a program without contexts and early errors of names that can be written down, in which nothing reads names and where classes
-- don't keep theirs
pub record IsSource (config : Config) (t : Node) : Type 0 where
  pub clean : IsClean t
  pub fair : NoEarlyErrorOfNames t
  pub writable : Writable t
  pub plain : IsPlain config t

-- a program that hygiene and the fixer may finish; what is the same as it but for bound names is so to the source; its normal form is
-- the source's, spans too, but for contexts; and nothing reads names in it where nothing did in the source
pub record HasFormOf (config : Config) (goal : Slot) (source resolved : Node) : Type 0 where
  pub fits : Fits resolved goal
  pub finishable : IsFinishable config resolved
  pub same : (answer : Node) → SameButForBoundNames resolved answer → SameButForBoundNames source answer
  pub placed : SameButForNames (normal_form source) (normal_form resolved)
  pub unread : ¬ HasEval source → ¬ HasEval resolved

-- such a source is that once it is resolved
abbrev pub ResolvedSourcesHaveTheirForm : Type 0
ResolvedSourcesHaveTheirForm = (config : Config) (goal : Slot) (source resolved : Node) (unresolved top : ℕ) (old new : Table) → IsTrue (is_goal goal) → Fits source goal → IsSource config source
    → Resolved unresolved top old new source resolved → HasFormOf config goal source resolved

-- such a program that is well-scoped, whose ids are what the names of the source mean
pub record IsReady (config : Config) (goal : Slot) (source resolved : Node) : Type 0 where
  pub form : HasFormOf config goal source resolved
  pub plain : IsPlainIfScript resolved
  pub well_scoped : WellScoped resolved
  pub found : MeanTheirIds source resolved

-- such a source is ready once it is resolved, where the table has the mark of free names
abbrev pub ResolvedSourcesAreReady : Type 0
ResolvedSourcesAreReady = (config : Config) (goal : Slot) (source resolved : Node) (unresolved top : ℕ) (old new : Table) → IsTrue (is_goal goal) → Fits source goal → IsSource config source → IsPlainIfScript source → Contains (numbers old) unresolved
    → Resolved unresolved top old new source resolved → IsReady config goal source resolved
