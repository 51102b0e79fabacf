-- The names of a tree, each with the scopes round it, where a scope is known by what it takes.
use Rattle.std.specs.Prelude.{ℕ, zero, suc, Bool, true, false, not, Option, Some, None, List, [], ◌∷◌, ◌++◌, map, if◌then◌else◌}
use Rattle.std.specs.List.{filter}
use Rattle.swc_tree_marks.specs.declared.ident.Ident.{Ident}
use Rattle.swc_tree_node.specs.declared.node.Node.{Node, out-Node}
use Rattle.swc_tree_node.specs.declared.node.Node.TheOpen.{Node-F}
use Rattle.swc_tree_scoping.specs.declared.places.Standing.{Standing}
use Rattle.swc_tree_scoping.specs.declared.places.Standing.TheVariants as standing
use Rattle.swc_tree_scoping.specs.declared.places.Place.{Place}
use Rattle.swc_tree_scoping.specs.declared.places.Scope.{Scope}
use Rattle.swc_tree_scoping.specs.declared.places.View.{View}
use Rattle.swc_tree_scoping.specs.declared.places.View.TheVariants as view
use Rattle.swc_tree_scoping.specs.Places.{children_in, is_inside, opened, place_below}
use Rattle.swc_tree_scoping.specs.Scopes.{takes, view_in, is_binding, is_name}
use Rattle.swc_tree_scoping.specs.Folds.{each_in, fold_in_place}

-- a binding: as what it stands, and its identifier
abbrev pub Binding : Type 0
Binding = Standing × Ident

-- a scope round a name: what it takes, and whether all of it is seen from there
abbrev pub Entry : Type 0
Entry = List Binding × Bool

-- a binding or a reference, with the scopes round it that take anything, the innermost first
abbrev pub Site : Type 0
Site = Standing × Ident × List Entry

-- of a node: the bindings that no scope in it takes, its names, and what each of its scopes takes
pub record Sites : Type 0 where
  pub pending : List Binding
  pub sites : List Site
  pub sets : List (List Binding)

abbrev pub nothing : Sites
nothing = record { pending = []; sites = []; sets = [] }

abbrev pub both : Sites → Sites → Sites
both a b = record { pending = a.pending ++ b.pending; sites = a.sites ++ b.sites; sets = a.sets ++ b.sets }

abbrev pub joined : List Sites → Sites
joined [] = nothing
joined (a ∷ cs) = both a (joined cs)

-- what takes nothing is no entry
abbrev pub entry : List Binding → Bool → List Entry
entry [] whole = []
entry (b ∷ bs) whole = (b ∷ bs, whole) ∷ []

abbrev pub set_of : List Binding → List (List Binding)
set_of [] = []
set_of (b ∷ bs) = (b ∷ bs) ∷ []

abbrev pub pushed : List Entry → Site → Site
pushed e s = (s.0, s.1, s.2 ++ e)

abbrev pub seen_in : List Binding → View → List Entry
seen_in taken view.Outside = []
seen_in taken view.Parameters = entry taken false
seen_in taken view.Whole = entry taken true

-- the pending bindings of the children that stand in the scope, and of the others
abbrev pub pending_where : (View → Bool) → (ℕ → View) → List Sites → List Binding
pending_where f views [] = []
pending_where f views (a ∷ cs) = (if f (views zero) then a.pending else []) ++ pending_where f (λ i. views (suc i)) cs

abbrev pub sites_seen : List Binding → (ℕ → View) → List Sites → List Site
sites_seen taken views [] = []
sites_seen taken views (a ∷ cs) = map (pushed (seen_in taken (views zero))) a.sites ++ sites_seen taken (λ i. views (suc i)) cs

abbrev pub taken_of : Scope → (ℕ → View) → List Sites → List Binding
taken_of s views cs = filter (λ b. takes b.0 s) (pending_where is_inside views cs)

abbrev pub in_scope : Option Scope → (ℕ → View) → List Sites → Sites
in_scope None views cs = joined cs
in_scope (Some s) views cs = record {
  pending = pending_where (λ v. not (is_inside v)) views cs ++ filter (λ b. not (takes b.0 s)) (pending_where is_inside views cs);
  sites = sites_seen (taken_of s views cs) views cs;
  sets = set_of (taken_of s views cs) ++ (joined cs).sets;
}

-- a name that is the body of an arrow is a reference like any other
abbrev pub counted : Standing → Standing
counted standing.Body = standing.Reference
counted r = r

abbrev pub name_sites : Standing → Ident → Sites
name_sites r i = record { pending = if is_binding r then (r, i) ∷ [] else []; sites = if is_name r then (counted r, i, []) ∷ [] else []; sets = [] }

abbrev pub sites_in : Place → Node-F Node → Option Scope → (ℕ → View) → List Sites → Sites
sites_in w (Node-F.Identifier k i) o views cs = name_sites w.standing i
sites_in w y o views cs = in_scope o views cs

abbrev pub sites_step : Place → Node → List Sites → Sites
sites_step w t cs = sites_in w (out-Node t) (opened w t) (view_in (out-Node t)) cs

abbrev pub sites_of : Place → Node → Sites
sites_of = fold_in_place sites_step

-- the children of a node, as they stand
abbrev pub kids : Place → Node → List Sites
kids w t = each_in sites_of (place_below w t) (children_in (out-Node t))

-- what the scope of a node takes, if it opens one
abbrev pub taken_in : Place → Node → Option Scope → List Binding
taken_in w t None = []
taken_in w t (Some s) = taken_of s (view_in (out-Node t)) (kids w t)

abbrev pub taken_at : Place → Node → List Binding
taken_at w t = taken_in w t (opened w t)
