-- What becomes of a program that is resolved, mangled and fixed, and why it is refused.
use Rattle.std.specs.Prelude.{◌≡◌, ◌<◌, ◌≤◌, ◌+◌, ◌-◌, ℕ, Bool, true, false}
use Rattle.swc_tree_marks.specs.Globals.{Table, greatest, with_fresh_marks}
use Rattle.swc_tree_marks.specs.declared.error.PassError.{PassError}
use Rattle.swc_tree_marks.specs.declared.error.PassError.TheVariants as error
use Rattle.swc_tree_node.specs.declared.node.Node.{Node}
use Rattle.swc_tree_scoping.specs.Places.{program_place}
use Rattle.swc_tree_scoping.specs.Resolved.{Resolved}
use Rattle.swc_tree_scoping.specs.Scopes.{scope_count}
use Rattle.swc_tree_spaces.specs.Spaces.{has_types}
use Rattle.swc_tree_grammar.specs.Targets.{all_bare}
use Rattle.swc_base_fixer_program.specs.Answers.{answer_to}
use Rattle.swc_base_mangle.specs.Mangled.{IsMangleRefusal, IsMangled}
use Rattle.swc_base_rename_substitution.specs.declared.config.Config.{Config}

-- how many scopes the program has but itself: so many marks it takes
abbrev pub marks_for : Node → ℕ
marks_for t = scope_count program_place t - 1

-- the table has some fresh marks more, under the top mark, and not more than the program takes
abbrev pub GainsMarks : ℕ → Table → Node → Table → Type 0
GainsMarks top old before new = (fresh : ℕ) × (fresh ≤ marks_for before) × (new ≡ with_fresh_marks old top fresh)

-- the program was resolved, and then mangled
pub record OnceMangled (unresolved : ℕ) (config : Config) (keeps_top : Bool) (old : Table) (before : Node) (new : Table) (between : Node) : Type 0 where
  pub resolved : Node
  pub marked : Resolved unresolved config.top_level_mark old new before resolved
  pub mangled : IsMangled new config keeps_top resolved between

-- no types stood in it; each parenthesised target took a value then, and it got its due pairs
pub record IsMadeShort (unresolved : ℕ) (config : Config) (keeps_top : Bool) (old : Table) (before : Node) (new : Table) (after : Node) : Type 0 where
  pub no_types : has_types before ≡ false
  pub between : Node
  pub once : OnceMangled unresolved config keeps_top old before new between
  pub assignable : all_bare between ≡ true
  pub paired : after ≡ answer_to between

-- once the program is resolved, the counters of an id are spent
abbrev pub IsSpent : ℕ → Config → Bool → Table → Node → Table → Type 0
IsSpent unresolved config keeps_top old before new =
    (resolved : Node) × Resolved unresolved config.top_level_mark old new before resolved × IsMangleRefusal new config keeps_top resolved error.CounterSpent

-- once it is mangled, a parenthesised target takes no value
abbrev pub IsUnassignable : ℕ → Config → Bool → Table → Node → Table → Type 0
IsUnassignable unresolved config keeps_top old before new = (between : Node) × OnceMangled unresolved config keeps_top old before new between × (all_bare between ≡ false)

-- memory was refused, or the table had no room for the marks; or, once the program was resolved, the counters were spent; or, once it was
-- mangled, a target took no value
abbrev pub IsCause : ℕ → Config → Bool → Table → Node → Table → PassError → Type 0
IsCause unresolved config keeps_top old before new error.NoMemory = Unit {0}
IsCause unresolved config keeps_top old before new error.MarksSpent = 4294967295 < greatest old + marks_for before
IsCause unresolved config keeps_top old before new error.CounterSpent = IsSpent unresolved config keeps_top old before new
IsCause unresolved config keeps_top old before new error.NotAssignable = IsUnassignable unresolved config keeps_top old before new
IsCause unresolved config keeps_top old before new error.TypesLeft = ⊥

-- types stand in the program, and the table is as it was; or none do, and it is for another cause
abbrev pub IsRefusal : ℕ → Config → Bool → Table → Node → Table → PassError → Type 0
IsRefusal unresolved config keeps_top old before new error.TypesLeft = (has_types before ≡ true) × (new ≡ old)
IsRefusal unresolved config keeps_top old before new e = (has_types before ≡ false) × IsCause unresolved config keeps_top old before new e
