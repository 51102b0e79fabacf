-- What the parts of the judge answer.
use Rattle.std.specs.Prelude.{◌≡◌, Bool, ◌⊎◌, Option, Some, None, List, [], ◌∷◌}
use Rattle.swc_tree_marks.specs.declared.error.PassError.{PassError}
use Rattle.swc_tree_marks.specs.declared.error.PassError.TheVariants as error
use Rattle.swc_tree_marks.specs.Globals.{Table}
use Rattle.swc_tree_node.specs.declared.node.Node.{Node}
use Rattle.swc_tree_scoping.specs.declared.places.Scope.TheVariants as scope
use Rattle.swc_tree_scoping.specs.Places.{opened, program_place}
use Rattle.swc_tree_scoping.specs.Resolved.{Resolved}
use Rattle.swc_tree_scoping.specs.WellScoped.{IsClean}
use Rattle.swc_tree_spaces.specs.NoTypes.{NoTypes}
use Rattle.swc_base_alpha.specs.Verdict.{AreSame, Asks, HasTooManyScopes, IsFirstToFail, words}
use Rattle.swc_base_alpha.specs.declared.verdict.Why.{Why}

-- conditions in a row hold
abbrev pub AllHold : (Why → Type 0) → List Why → Type 0
AllHold asks [] = Unit {0}
AllHold asks (v ∷ vs) = asks v × AllHold asks vs

-- they hold, or the word names the first that fails
abbrev pub Decides : (Why → Type 0) → List Why → Option Why → Type 0
Decides asks ws None = AllHold asks ws
Decides asks ws (Some w) = IsFirstToFail asks ws w

-- what is judged: a program without contexts and types
pub record IsOrdinary (t : Node) : Type 0 where
  pub clean : IsClean t
  pub no_types : NoTypes t
  pub opens : opened program_place t ≡ Some scope.Program

-- the judge's table of marks: 1 for free names, 2 for the program's own scope
abbrev pub own_table : Table
own_table = (1, 0) ∷ (2, 0) ∷ []

-- a tree resolved with these marks
abbrev pub IsOwnAnswer : Node → Node → Type 0
IsOwnAnswer t u = (new : Table) × Resolved 1 2 own_table new t u

-- two normal forms are the same; or the word names the first condition that fails
abbrev pub Concludes : Bool → Type 0 → Node → Node → Option Why → Type 0
Concludes keep_top reading t u None = AreSame keep_top reading t u
Concludes keep_top reading t u (Some w) = IsFirstToFail (Asks keep_top reading t u) words w

-- memory was refused, or marks were spent
abbrev pub IsRefused : Node → Node → PassError → Type 0
IsRefused t u e = (e ≡ error.NoMemory) ⊎ ((e ≡ error.MarksSpent) × (HasTooManyScopes t ⊎ HasTooManyScopes u))
