-- What is found among the scopes that are open.
use Rattle.std.specs.Prelude.{ℕ, Bool, true, false, not, ◌&&◌, ◌||◌, ◌==◌, Option, Some, None, List, [], ◌∷◌, if◌then◌else◌}
use Rattle.swc_tree_scoping.specs.declared.places.Standing.{Standing}
use Rattle.swc_tree_scoping.specs.declared.places.Standing.TheVariants as standing
use Rattle.swc_tree_scoping.specs.declared.places.Scope.{Scope}
use Rattle.swc_tree_scoping.specs.Scopes.{is_taken}
use Rattle.swc_tree_scoping.specs.Declares.{is_no_variable, is_parameter, is_settled, stops, stops_in_block}
use Rattle.swc_base_resolver_program.specs.declared.env.Env.{Env, fold-Env}
use Rattle.swc_base_resolver_program.specs.declared.env.Env.TheOpen.{Env-F}
use Rattle.swc_base_resolver_program.specs.declared.env.Layer.{Layer}
use Rattle.swc_base_resolver_program.specs.declared.lookup.TakenNames.{TakenNames}
use Rattle.swc_base_resolver_program.specs.declared.lookup.Declarations.{Declarations}
use Rattle.swc_base_resolver_program.specs.Names.{Bindings, any_way, has_way, ways_in}

-- a scope that is open: its number from the front, and whether all its names are seen or only its parameters
pub record Open : Type 0 where
  pub scope : Option Scope
  pub number : ℕ
  pub whole : Bool

-- the open scopes, as the code keeps them
abbrev pub open_of : Layer → Open
open_of l = record { scope = Some l.scope; number = l.number; whole = l.whole }

abbrev pub layers_step : Env-F (List Open) → List Open
layers_step Env-F.Top = []
layers_step (Env-F.In l env) = open_of l ∷ env.now

abbrev pub layers : Env → List Open
layers = fold-Env (List Open) layers_step

-- the number of the first that passes a test, which is given the scopes round it too
abbrev pub found : (Open → List Open → Bool) → List Open → Option ℕ
found f [] = None
found f (o ∷ os) = if f o os then Some o.number else found f os

abbrev pub taker_in : Standing → List Open → Option ℕ
taker_in r = found (λ o os. is_taken r o.scope)

abbrev pub passes_in : Bindings → List ℕ → List Open → Bool
passes_in b x [] = true
passes_in b x (o ∷ os) = not (any_way stops (b o.number x)) && (is_taken standing.Variable o.scope || passes_in b x os)

abbrev pub hoists_from : Bindings → List ℕ → Open → List Open → Bool
hoists_from b x o os = not (any_way stops_in_block (b o.number x)) && passes_in b x os

abbrev pub hoists_in : Bindings → List ℕ → List Open → Bool
hoists_in b x [] = false
hoists_in b x (o ∷ os) = if is_taken standing.SloppyFunction o.scope then hoists_from b x o os else hoists_in b x os

abbrev pub meets_in : Bindings → List ℕ → List Open → Option ℕ
meets_in b x = found (λ o os. is_taken standing.Variable o.scope || has_way (b o.number x) standing.CatchParameter)

-- what the scopes take, and what reaches them besides
pub record Tables : Type 0 where
  pub bound : Bindings
  pub reached : Bindings

abbrev pub names_in : TakenNames → Bindings
names_in n = ways_in n.scopes.now

abbrev pub tables_in : Declarations → Tables
tables_in d = record { bound = names_in d.bound; reached = names_in d.reached }

abbrev pub declares_in : Tables → List ℕ → Open → List Open → Bool
declares_in d x o os =
    if o.whole
    then ((any_way is_settled (d.bound o.number x) || (d.bound o.number x).member) || (has_way (d.reached o.number x) standing.SloppyFunction || (has_way (d.bound o.number x) standing.SloppyFunction && not (hoists_from d.bound x o os))))
    else any_way is_parameter (d.bound o.number x)

-- as a value
abbrev pub meaning_in : Tables → List ℕ → List Open → Option ℕ
meaning_in d x = found (declares_in d x)

-- and as a type
abbrev pub type_meaning_in : Bindings → List ℕ → List Open → Option ℕ
type_meaning_in b x = found (λ o os. o.whole && (b o.number x).as_type)

abbrev pub otherwise_in : Tables → List ℕ → ℕ → Bool
otherwise_in d x k = any_way is_no_variable (d.bound k x) || (has_way (d.reached k x) standing.SloppyFunction || has_way (d.reached k x) standing.Variable)

abbrev pub owner_of_variable : Tables → List ℕ → List Open → Option ℕ → Option ℕ
owner_of_variable d x os None = None
owner_of_variable d x os (Some k) = if otherwise_in d x k then meets_in d.bound x os else Some k

abbrev pub variable_owner_in : Tables → List ℕ → List Open → Option ℕ
variable_owner_in d x os = owner_of_variable d x os (taker_in standing.Variable os)

abbrev pub function_owner_in : Tables → List ℕ → List Open → Option ℕ
function_owner_in d x os = if hoists_in d.bound x os then taker_in standing.Variable os else taker_in standing.SloppyFunction os

abbrev pub same_number : Option ℕ → Option ℕ → Option ℕ
same_number (Some k) (Some m) = if m == k then Some k else None
same_number _ _ = None
