-- What names go by, and what stands while they are given, of the parts of a plan.
use Rattle.std.specs.Prelude.{ℕ, Bool, Option, List}
use Rattle.std.specs.Ordering.{nat_cmp}
use Rattle.std.specs.BTreeSet.{contains}
use Rattle.swc_base_rename_substitution.specs.Names.{Id}
use Rattle.swc_base_rename_naming.specs.Free.{Test}
use Rattle.swc_base_rename_naming.specs.Sites.{pair_of}
use Rattle.swc_base_rename_naming.specs.Steps.{IsNameGiven, IsSiteDone, Maps, Naming, naming, next_at, taken_at}
use Rattle.swc_base_rename_naming.specs.Tried.{IsTried}
use Rattle.swc_base_rename_naming.specs.declared.in_order.Plan.{Plan}
use Rattle.swc_base_rename_naming.specs.declared.in_order.ProgramNames.{ProgramNames}
use Rattle.swc_base_rename_naming.specs.declared.in_order.ScopeNames.{ScopeNames}
use Rattle.swc_base_rename_naming.specs.declared.site.Site.{Site}

abbrev pub planned : {N A : Type 0} → (N → Id → ℕ → List ℕ) → (A → Id → Bool) → (A → List ℕ → Bool) → (A → ℕ → ℕ → Bool) → (A → ℕ → Option Id) → Plan N A → (ℕ → ℕ → Bool) → Naming
planned text keeps preserved occurs id_of plan counts = naming (text plan.texts.now) plan.counter_goes_on (keeps plan.asked.now) (preserved plan.asked.now) (occurs plan.asked.now) counts (id_of plan.asked.now)

-- which ids have which texts: in a scope and round it, and of those that leak
abbrev pub maps_of : ScopeNames → ProgramNames → Maps
maps_of in_scope in_program = (in_scope.holders, in_program.leaked.holders)

-- what is taken at a scope
abbrev pub taken_by : {N A : Type 0} → (A → List ℕ → Bool) → (A → ℕ → ℕ → Bool) → Plan N A → ScopeNames → ProgramNames → ℕ → Test
taken_by preserved occurs plan in_scope in_program = taken_at (preserved plan.asked.now) (occurs plan.asked.now) (maps_of in_scope in_program)

-- below the counters that were tried each text is taken
abbrev pub AreTried : {N A : Type 0} → (N → Id → ℕ → List ℕ) → (A → List ℕ → Bool) → (A → ℕ → ℕ → Bool) → Plan N A → ScopeNames → ProgramNames → Type 0
AreTried text preserved occurs plan in_scope in_program = IsTried (text plan.texts.now) (preserved plan.asked.now) (occurs plan.asked.now) (maps_of in_scope in_program) in_scope.tried

-- an id got its name at a site
abbrev pub IsNameGivenBy : {N A : Type 0} → (N → Id → ℕ → List ℕ) → (A → List ℕ → Bool) → (A → ℕ → ℕ → Bool) → Plan N A → Id → Site → ScopeNames → ScopeNames → ProgramNames → ProgramNames → Type 0
IsNameGivenBy text preserved occurs plan id site scope_was scope_is was is =
    IsNameGiven (text plan.texts.now id) (taken_by preserved occurs plan scope_was was site.scope) (next_at plan.counter_goes_on was.names site.scope) (contains nat_cmp plan.leaks.now site.scope) (pair_of site)
    was.names is.names (maps_of scope_was was) (maps_of scope_is is)

-- one site more is done
abbrev pub IsSiteDoneBy : {N A : Type 0} → Naming → Plan N A → Site → ScopeNames → ScopeNames → ProgramNames → ProgramNames → Type 0
IsSiteDoneBy n plan site scope_was scope_is was is = IsSiteDone n (contains nat_cmp plan.leaks.now site.scope) (pair_of site) was.names is.names (maps_of scope_was was) (maps_of scope_is is)
