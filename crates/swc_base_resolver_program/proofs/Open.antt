-- What is found among the open scopes.
use Rattle.std.proofs.Common.{◌≡◌, ℕ, true, false, [], ◌∷◌, Bor, refl}
use Rattle.swc_tree_scoping.specs.declared.places.Scope.{Scope}
use Rattle.swc_tree_scoping.specs.declared.places.View.{View}
use Rattle.swc_tree_scoping.specs.declared.places.View.TheVariants as view
use Rattle.swc_base_resolver_program.specs.declared.env.Env.{Env, out-Env, fold_out-Env}
use Rattle.swc_base_resolver_program.specs.declared.env.Env.TheVariants.{In, outs-In}
use Rattle.swc_base_resolver_program.specs.declared.env.Env.TheOpen.{Env-F}
use Rattle.swc_base_resolver_program.specs.declared.env.Layer.{Layer}
use Rattle.swc_base_resolver_program.specs.Lookup.{layers, open_of}
use Rattle.swc_base_resolver_program.specs.Walks.{inside, pick}

pub layers_top : (env : Env) → out-Env env ≡ Env-F.Top → layers env ≡ []
layers_top env o = rw (fold_out-Env, o) refl

pub layers_in : (env : Env) (l : Layer) (outer : Bor Env) → out-Env env ≡ Env-F.In l outer → layers env ≡ open_of l ∷ layers outer.now
layers_in env l outer o = rw (fold_out-Env, o) refl

pub layers_inside : (l : Layer) (outer : Bor Env) → layers (In l outer) ≡ open_of l ∷ layers outer.now
layers_inside l outer = layers_in (In l outer) l outer (outs-In l outer)

-- what the parts of a node see that opens a scope
pub seen_inside : (s : Scope) (n : ℕ) (outer : Bor Env) (v : View)
    → pick v (layers outer.now) (layers (In (record { scope = s; number = n; whole = false }) outer)) (layers (In (record { scope = s; number = n; whole = true }) outer)) ≡ inside s n (layers outer.now) v
seen_inside s n outer view.Outside = refl
seen_inside s n outer view.Parameters = layers_inside _ outer
seen_inside s n outer view.Whole = layers_inside _ outer
