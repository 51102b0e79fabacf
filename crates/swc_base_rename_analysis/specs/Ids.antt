-- Identifiers at their paths, by their ids.
use Rattle.std.specs.Prelude.{◌≡◌, IsTrue, Option, Some, option_and_then, option_map}
use Rattle.swc_tree_node.specs.declared.node.Node.{Node, out-Node}
use Rattle.swc_tree_scoping.specs.declared.places.Standing.{Standing}
use Rattle.swc_tree_scoping.specs.declared.places.Place.{Place}
use Rattle.swc_tree_scoping.specs.Places.{Path, place_at, program_place}
use Rattle.swc_tree_scoping.specs.Scopes.{is_binding}
use Rattle.swc_tree_scoping.specs.BoundNames.{Id, name_in}

-- as what the identifier at a path stands, and its id
abbrev pub id_at : Node → Path → Option (Standing × Id)
id_at t p = option_and_then (λ (q : Place × Node). option_map (λ i. (q.0.standing, (i.sym, i.ctxt))) (name_in (out-Node q.1))) (place_at program_place t p)

-- an identifier somewhere binds the id
abbrev pub IsBound : Node → Id → Type 0
IsBound t x = (p : Path) × (r : Standing) × (id_at t p ≡ Some (r, x)) × IsTrue (is_binding r)
