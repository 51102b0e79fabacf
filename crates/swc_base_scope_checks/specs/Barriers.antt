-- What keeps a variable from the function, static block or program that is to take it.
use Rattle.std.specs.Prelude.{ℕ, Bool, true, not, ◌&&◌, ◌||◌, List, [], ◌∷◌}
use Rattle.swc_tree_scoping.specs.declared.places.Standing.{Standing}
use Rattle.swc_tree_scoping.specs.declared.places.Standing.TheVariants as standing
use Rattle.swc_tree_scoping.specs.Scopes.{is_taken}
use Rattle.swc_tree_scoping.specs.Declares.{is_lexical}
use Rattle.swc_tree_scoping.specs.WellScoped.{is_catch_parameter}
use Rattle.swc_base_resolver_program.specs.Lookup.{Open}
use Rattle.swc_base_resolver_program.specs.Names.{Bindings, any_way}
use Rattle.swc_base_scope_checks.specs.declared.barrier.Barrier.{Barrier}
use Rattle.swc_base_scope_checks.specs.declared.barrier.Barrier.TheVariants as barrier

-- the ways to take a name that bar a variable
abbrev pub barred : Barrier → Standing → Bool
barred barrier.CatchParameter r = is_catch_parameter r
barred barrier.Lexical r = is_lexical r

-- no scope before the nearest function, static block or program takes the name in such a way
abbrev pub gets_out : (Standing → Bool) → Bindings → List ℕ → List Open → Bool
gets_out ways b x [] = true
gets_out ways b x (o ∷ os) = is_taken standing.Variable o.scope || (not (any_way ways (b o.number x)) && gets_out ways b x os)
