-- What is promised of a program that was made short, and what a refusal says.
use Rattle.std.proofs.Common.{◌≡◌, ◌≢◌, ℕ, Bool, true, IsTrue, refl, sym, subst, arith}
use Rattle.std.specs.Prelude.{Contains}
use Rattle.swc_tree_marks.specs.declared.error.PassError.{PassError}
use Rattle.swc_tree_marks.specs.declared.error.PassError.TheVariants as error
use Rattle.swc_tree_marks.specs.Globals.{Table, numbers}
use Rattle.swc_tree_node.specs.declared.slot.Slot.{Slot}
use Rattle.swc_tree_node.specs.declared.node.Node.{Node}
use Rattle.swc_tree_node.specs.Fits.{Fits}
use Rattle.swc_tree_renaming.specs.Apart.{IsPlainIfScript, is_goal}
use Rattle.swc_tree_grammar.specs.Fixed.{recorded}
use Rattle.swc_tree_grammar.specs.Pairs.{pairs}
use Rattle.swc_tree_grammar.specs.Targets.{all_bare}
use Rattle.swc_base_fixer_program.specs.Answers.{answer_to}
use Rattle.swc_base_mangle_laws.specs.Laws.{MangledSourcesAreKept, MangledSourcesKeepForms}
use Rattle.swc_base_rename_substitution.specs.declared.config.Config.{Config}
use Rattle.swc_base_mangle_laws.specs.Lower.swc_ecma_transforms_base_laws.specs.Headline.{KeepsItsForm, KeepsItsSource}
use Rattle.swc_base_mangle_laws.specs.Lower.swc_ecma_transforms_base_laws.specs.Sources.{IsSource}
use Rattle.swc_ecma_transforms_base.specs.Mangled.{GainsMarks, IsMadeShort, IsRefusal, OnceMangled}

-- a table that stays gains none
pub none_gained : (top : ℕ) (table : Table) (before : Node) → GainsMarks top table before table
none_gained top table before = (0, omega arith, refl)

-- the node that was worked on is that of the program
module _ (unresolved : ℕ) (config : Config) (keeps_top : Bool) (old new : Table) (node before : Node) (same : node ≡ before) where
  pub made_of : (answer after : Node) → after ≡ answer → IsMadeShort unresolved config keeps_top old node new answer → IsMadeShort unresolved config keeps_top old before new after
  made_of answer after is made = subst (λ t. IsMadeShort unresolved config keeps_top old t new after) same (subst (IsMadeShort unresolved config keeps_top old node new) (sym is) made)

  pub refused_of : (e : PassError) → IsRefusal unresolved config keeps_top old node new e → IsRefusal unresolved config keeps_top old before new e
  refused_of e = subst (λ t. IsRefusal unresolved config keeps_top old t new e) same

  pub gained_of : GainsMarks config.top_level_mark old node new → GainsMarks config.top_level_mark old before new
  gained_of = subst (λ t. GainsMarks config.top_level_mark old t new) same

module _ (unresolved : ℕ) (config : Config) (keeps_top : Bool) (old new : Table) (goal : Slot) (before : Node) (is : IsTrue (is_goal goal)) (fits : Fits before goal) where
  pub form_kept : MangledSourcesKeepForms → (after : Node) → IsMadeShort unresolved config keeps_top old before new after → IsSource config before → KeepsItsForm before after
  unfolding answer_to
  form_kept forms after made source = subst (KeepsItsForm before) (sym made.paired)
      (forms config keeps_top (recorded (pairs made.between)) goal unresolved config.top_level_mark old new before made.once.resolved made.between is fits source made.once.marked made.once.mangled).0

  pub source_kept : MangledSourcesAreKept → Contains (numbers old) unresolved → (after : Node) → IsMadeShort unresolved config keeps_top old before new after → IsSource config before → IsPlainIfScript before
      → KeepsItsSource unresolved config.top_level_mark old new before after
  unfolding answer_to
  source_kept sources known after made source plain = subst (KeepsItsSource unresolved config.top_level_mark old new before) (sym made.paired)
      (sources config keeps_top (recorded (pairs made.between)) goal unresolved old new before made.once.resolved made.between is fits source plain known made.once.marked made.once.mangled)

  takes_values : MangledSourcesKeepForms → IsSource config before → (between : Node) → OnceMangled unresolved config keeps_top old before new between → all_bare between ≡ true
  takes_values forms source between once = (forms config keeps_top (recorded (pairs between)) goal unresolved config.top_level_mark old new before once.resolved between is fits source once.marked once.mangled).1

  -- no target is to blame
  pub spared : MangledSourcesKeepForms → IsSource config before → (e : PassError) → IsRefusal unresolved config keeps_top old before new e → e ≢ error.NotAssignable
  spared forms source error.NotAssignable (none, (between, once, bare)) same = let stands = takes_values forms source between once in absurd (cc)
  spared forms source error.NoMemory h same = absurd (cc same)
  spared forms source error.MarksSpent h same = absurd (cc same)
  spared forms source error.CounterSpent h same = absurd (cc same)
  spared forms source error.TypesLeft h same = absurd (cc same)
