-- What the resolver, a renamer, as hygiene is one, and the fixer make of a program, one after another, and why they refuse one.
use Rattle.std.specs.Prelude.{◌≡◌, ℕ, ◌+◌, ◌-◌, ◌<◌, ◌≤◌, true, false}
use Rattle.swc_tree_marks.specs.declared.error.PassError.{PassError}
use Rattle.swc_tree_marks.specs.declared.error.PassError.TheVariants as error
use Rattle.swc_tree_marks.specs.Globals.{Table, greatest, with_fresh_marks}
use Rattle.swc_tree_node.specs.declared.node.Node.{Node}
use Rattle.swc_tree_scoping.specs.Places.{program_place}
use Rattle.swc_tree_scoping.specs.Resolved.{Resolved}
use Rattle.swc_tree_scoping.specs.Scopes.{scope_count}
use Rattle.swc_tree_spaces.specs.Spaces.{has_types}
use Rattle.swc_base_resolver_program.specs.Marked.{MarksOk, OnlyContexts}
use Rattle.swc_base_rename_substitution.specs.declared.config.Config.{Config}
use Rattle.swc_base_rename_analysis.specs.Named.{Renaming}
use Rattle.swc_base_rename_program.specs.Renamed.{IsRenameRefusal, hygiene_renaming}
use Rattle.swc_base_renaming_laws.specs.Renamers.{IsRenamedAndCleared}
use Rattle.swc_ecma_transforms_base_laws.specs.Renamers.{Suits}
use Rattle.swc_ecma_transforms_base_chains.specs.Finished.{FinishesBy, IsUnassignableBy}

-- how many scopes the program has but itself: so many marks it takes
abbrev pub marks_for : Node → ℕ
marks_for t = scope_count program_place t - 1

-- each name has the mark of the scope that it means, where the table has the two marks; whatever they are, only contexts
-- change, and the table has a fresh mark more for each scope but the program
pub record IsMarked (unresolved top : ℕ) (old : Table) (before : Node) (new : Table) (after : Node) : Type 0 where
  pub resolved : MarksOk old unresolved top → Resolved unresolved top old new before after
  pub contexts : OnlyContexts before after
  pub table : new ≡ with_fresh_marks old top (marks_for before)

-- no types stood in the program; it was resolved, and then finished by the renamer, which goes by what was resolved
pub record ChainsBy (r : Node → Renaming) (unresolved top : ℕ) (config : Config) (old : Table) (before : Node) (new : Table) (after : Node) : Type 0 where
  pub no_types : has_types before ≡ false
  pub resolved : Node
  pub marked : IsMarked unresolved top old before new resolved
  pub finished : FinishesBy (r resolved) new config resolved after

-- the table has some fresh marks more, under the top mark, and not more than the program takes
pub record HasFreshMarks (top : ℕ) (old : Table) (before : Node) (new : Table) : Type 0 where
  pub fresh : ℕ
  pub enough : fresh ≤ marks_for before
  pub table : new ≡ with_fresh_marks old top fresh

-- what is so of the program once it is resolved
pub record OnceMarked (unresolved top : ℕ) (old : Table) (before : Node) (new : Table) (IsSo : Node → Type 0) : Type 0 where
  pub resolved : Node
  pub marked : IsMarked unresolved top old before new resolved
  pub is_so : IsSo resolved

-- memory was refused, or the table had no room for the marks; or, once the program was resolved, the counters of an id were
-- spent or a target took no value
abbrev pub IsChainCauseBy : (Node → Renaming) → ℕ → ℕ → Config → Table → Node → Table → PassError → Type 0
IsChainCauseBy r unresolved top config old before new error.NoMemory = Unit {0}
IsChainCauseBy r unresolved top config old before new error.MarksSpent = 4294967295 < greatest old + marks_for before
IsChainCauseBy r unresolved top config old before new error.TypesLeft = ⊥
IsChainCauseBy r unresolved top config old before new error.CounterSpent =
    OnceMarked unresolved top old before new (λ t. IsRenameRefusal new config (r t) t error.CounterSpent)
IsChainCauseBy r unresolved top config old before new error.NotAssignable = OnceMarked unresolved top old before new (λ t. IsUnassignableBy (r t) new config t)

-- types stand in the program, and the table is as it was; or none do, and it is for another cause
abbrev pub IsChainRefusalBy : (Node → Renaming) → ℕ → ℕ → Config → Table → Node → Table → PassError → Type 0
IsChainRefusalBy r unresolved top config old before new error.TypesLeft = (has_types before ≡ true) × (new ≡ old)
IsChainRefusalBy r unresolved top config old before new e = (has_types before ≡ false) × IsChainCauseBy r unresolved top config old before new e

-- the program is resolved, and then has its names and no contexts: so it is when the fixer is given it
abbrev pub IsOnceRenamed : (Node → Renaming) → ℕ → ℕ → Config → Table → Node → Table → Node → Type 0
IsOnceRenamed r unresolved top config old before new t = OnceMarked unresolved top old before new (λ resolved. IsRenamedAndCleared new config (r resolved) resolved t)

-- ---- hygiene is a renamer, whatever was resolved

abbrev pub Chains : ℕ → ℕ → Config → Table → Node → Table → Node → Type 0
Chains = ChainsBy (λ t. hygiene_renaming)

abbrev pub IsChainRefusal : ℕ → ℕ → Config → Table → Node → Table → PassError → Type 0
IsChainRefusal = IsChainRefusalBy (λ t. hygiene_renaming)

abbrev pub IsOnceHygienic : ℕ → ℕ → Config → Table → Node → Table → Node → Type 0
IsOnceHygienic = IsOnceRenamed (λ t. hygiene_renaming)

-- ---- a renamer of one's own

-- it was asked for the preserved ids of what was resolved, or was not asked, if the chain was refused before
abbrev pub IsAskedOfResolved : {X : Type 0} → (X → Node → X → Type 0) → ℕ → ℕ → Table → Node → Table → X → X → Type 0
IsAskedOfResolved asked unresolved top old before new was is = OnceMarked unresolved top old before new (λ t. asked was t is)

-- it suits whatever the program may be resolved to
abbrev pub SuitsOnceResolved : (Node → Renaming) → ℕ → ℕ → Table → Node → Table → Type 0
SuitsOnceResolved r unresolved top old before new = (t : Node) → Resolved unresolved top old new before t → Suits (r t) t
