-- The identifiers of a tree, with as what each stands.
use Rattle.std.specs.Prelude.{◌≡◌, Some, List, [], ◌∷◌, ◌++◌}
use Rattle.swc_tree_marks.specs.declared.ident.Ident.{Ident}
use Rattle.swc_tree_node.specs.declared.kind.Kind.{Kind}
use Rattle.swc_tree_node.specs.declared.node.Node.{Node, Identifier, out-Node}
use Rattle.swc_tree_node.specs.declared.node.Node.TheOpen.{Node-F}
use Rattle.swc_tree_scoping.specs.declared.places.Place.{Place}
use Rattle.swc_tree_scoping.specs.declared.places.Standing.{Standing}
use Rattle.swc_tree_scoping.specs.Folds.{fold_in_place}
use Rattle.swc_tree_scoping.specs.Places.{Path, place_at}
use Rattle.swc_tree_walk.specs.declared.identifiers.Site.{Site}

-- as the code keeps it
abbrev pub site_of : Site → Standing × Ident
site_of s = (s.standing, s.ident.now)

abbrev pub own_sites : Place → Node-F Node → List (Standing × Ident)
own_sites w (Node-F.Identifier k i) = (w.standing, i) ∷ []
own_sites w _ = []

abbrev pub joined : {A : Type 0} → List (List A) → List A
joined [] = []
joined (xs ∷ rest) = xs ++ joined rest

-- each identifier of a tree with as what it stands, in the order of the source; the tree stands in a place
abbrev pub sites : Place → Node → List (Standing × Ident)
sites = fold_in_place (λ w t below. own_sites w (out-Node t) ++ joined below)

-- the identifier stands so somewhere in the tree, which stands in a place
abbrev pub StandsIn : Place → Node → Standing → Ident → Type 0
StandsIn w t r i = (p : Path) × (v : Place) × (k : Kind) × (place_at w t p ≡ Some (v, Identifier k i)) × (v.standing ≡ r)
