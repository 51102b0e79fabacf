-- Causes by the passes that are refused, and how the node of a program fits.
use Rattle.std.proofs.Common.{◌≡◌, ◌⊎◌, ◌<◌, ◌+◌, ℕ, Bool, true, false, IsTrue, inl, inr, refl, sym, subst}
use Rattle.swc_tree_marks.specs.declared.error.PassError.{PassError}
use Rattle.swc_tree_marks.specs.declared.error.PassError.TheVariants as error
use Rattle.swc_tree_marks.specs.Globals.{Table, greatest}
use Rattle.swc_tree_node.specs.declared.kind.Class.TheVariants as class
use Rattle.swc_tree_node.specs.declared.slot.Content.TheVariants as content
use Rattle.swc_tree_node.specs.declared.slot.Slot.{Slot}
use Rattle.swc_tree_node.specs.declared.slot.Slot.TheVariants as slot
use Rattle.swc_tree_node.specs.declared.node.Node.{Node}
use Rattle.swc_tree_node.specs.Fits.{Fits}
use Rattle.swc_tree_scoping.specs.Resolved.{Resolved}
use Rattle.swc_tree_renaming.specs.Apart.{is_goal}
use Rattle.swc_tree_spaces.specs.Spaces.{has_types}
use Rattle.swc_tree_grammar.specs.Fixed.{recorded}
use Rattle.swc_tree_grammar.specs.Pairs.{pairs}
use Rattle.swc_tree_grammar.specs.Targets.{all_bare}
use Rattle.swc_base_fixer_laws.specs.Laws.{FixedFitsTable}
use Rattle.swc_base_fixer_program.specs.Answers.{answer_to}
use Rattle.swc_base_mangle.specs.Mangled.{IsMangleRefusal}
use Rattle.swc_base_mangle_laws.specs.Lower.swc_base_renaming_laws.proofs.ErrorsPrograms.{goal_open}
use Rattle.swc_base_rename_substitution.specs.declared.config.Config.{Config}
use Rattle.swc_base_rename_substitution.specs.Room.{has_room}
use Rattle.swc_ecma_transforms_base.specs.Mangled.{IsRefusal, OnceMangled, marks_for}

pub true_unless : (b : Bool) → (b ≡ false → ⊥) → b ≡ true
true_unless true h = refl
true_unless false h = absurd (h refl)

module _ (unresolved : ℕ) (config : Config) (keeps_top : Bool) (old : Table) (before : Node) (new : Table) (none : has_types before ≡ false) where
  -- the resolver is refused for want of memory, or of marks
  pub marking_refused : (e : PassError) → (e ≡ error.NoMemory) ⊎ (e ≡ error.MarksSpent) → (e ≡ error.MarksSpent → 4294967295 < greatest old + marks_for before)
      → IsRefusal unresolved config keeps_top old before new e
  marking_refused e (inl short) spent = subst (IsRefusal unresolved config keeps_top old before new) (sym short) (none, tt)
  marking_refused e (inr out) spent = subst (IsRefusal unresolved config keeps_top old before new) (sym out) (none, spent out)

  -- mangling is refused for its counters, or for want of memory
  pub mangling_refused : (resolved : Node) (e : PassError) → Resolved unresolved config.top_level_mark old new before resolved → IsMangleRefusal new config keeps_top resolved e
      → IsRefusal unresolved config keeps_top old before new e
  mangling_refused resolved error.NoMemory is h = (none, tt)
  mangling_refused resolved error.CounterSpent is h = (none, (resolved, is, h))
  mangling_refused resolved error.MarksSpent is (inl same) = absurd (cc)
  mangling_refused resolved error.MarksSpent is (inr (no_strays, (texts, h))) = absurd h
  mangling_refused resolved error.NotAssignable is (inl same) = absurd (cc)
  mangling_refused resolved error.NotAssignable is (inr (no_strays, (texts, h))) = absurd h
  mangling_refused resolved error.TypesLeft is (inl same) = absurd (cc)
  mangling_refused resolved error.TypesLeft is (inr (no_strays, (texts, h))) = absurd h

  -- the fixer is refused for a target, or for want of memory
  pub fixing_refused : (between : Node) (e : PassError) → OnceMangled unresolved config keeps_top old before new between → (e ≡ error.NotAssignable → all_bare between ≡ false)
      → (e ≡ error.NotAssignable) ⊎ (e ≡ error.NoMemory) → IsRefusal unresolved config keeps_top old before new e
  fixing_refused between e is bare (inl why) = subst (IsRefusal unresolved config keeps_top old before new) (sym why) (none, (between, is, bare why))
  fixing_refused between e is bare (inr why) = subst (IsRefusal unresolved config keeps_top old before new) (sym why) (none, tt)

-- the place of a program takes what is written out, and pairs
pub goal_room : (goal : Slot) → IsTrue (is_goal goal) → IsTrue (has_room goal)
goal_room (slot.One (content.Node class.Module)) h = refl
goal_room (slot.One (content.Node class.Script)) h = refl
goal_room _ h = absurd (cc)

pub answer_fits : FixedFitsTable → (goal : Slot) → IsTrue (is_goal goal) → (between : Node) → Fits between goal → all_bare between ≡ true → Fits (answer_to between) goal
unfolding answer_to
answer_fits table goal is between f bare = table (recorded (pairs between)) between goal (goal_open goal is) f bare
