-- The places below a node are those that the code keeps.
use Rattle.std.proofs.Common.{◌≡◌, ℕ, List, refl, sym, ap, ◌∙◌}
use Rattle.std.specs.List.{slice_get}
use Rattle.swc_tree_node.specs.declared.kind.Kind.{Kind}
use Rattle.swc_tree_node.specs.declared.slot.Role.{Role}
use Rattle.swc_tree_node.specs.declared.slot.Role.TheVariants as role
use Rattle.swc_tree_node.specs.declared.node.Node.{Node, List as Many, Tree}
use Rattle.swc_tree_node.specs.declared.node.Node.TheVariants.{outs-List, outs-Tree}
use Rattle.swc_tree_scoping.specs.declared.places.Place.{Place}
use Rattle.swc_tree_scoping.specs.declared.below.PlacesBelow.TheVariants as below
use Rattle.swc_tree_scoping.specs.Places.{field_role, opened, opened_in, place_below, place_in, standing_below}
use Rattle.swc_tree_scoping.specs.Below.{fields_are, places_of, scope_of_fields, standing_by}

pub items_below : (w : Place) (ts : List Node) → places_of (below.Items w) ts ≡ place_below w (Many ts)
items_below w ts = sym (ap (place_in w) (outs-List ts))

standing_is : (w : Place) (k : Kind) (ts : List Node) (i : ℕ) (r : Role) → standing_by (fields_are w k ts) i (slice_get ts i) r ≡ standing_below w k ts i r
standing_is w k ts i role.Plain = refl
standing_is w k ts i role.Inherited = refl
standing_is w k ts i role.Reference = refl
standing_is w k ts i role.Declared = refl
standing_is w k ts i role.Function = refl
standing_is w k ts i role.Class = refl
standing_is w k ts i role.OwnName = refl
standing_is w k ts i role.Parameter = refl
standing_is w k ts i role.Catch = refl
standing_is w k ts i role.Import = refl
standing_is w k ts i role.Lexical = refl
standing_is w k ts i role.FunctionBody = refl
standing_is w k ts i role.ExportLocal = refl
standing_is w k ts i role.Label = refl
standing_is w k ts i role.Imported = refl
standing_is w k ts i role.Exported = refl
standing_is w k ts i role.TypeName = refl
standing_is w k ts i role.TypeReference = refl

pub fields_below : (w : Place) (k : Kind) (ts : List Node) → places_of (below.Fields (fields_are w k ts)) ts ≡ place_below w (Tree k ts)
fields_below w k ts = λ j i. (ap (λ s. record (places_of (below.Fields (fields_are w k ts)) ts i) { standing = s }) (standing_is w k ts i (field_role k i)) ∙ sym (ap (λ y. place_in w y i) (outs-Tree k ts))) j

pub fields_opened : (w : Place) (k : Kind) (ts : List Node) → scope_of_fields (below.Fields (fields_are w k ts)) ≡ opened w (Tree k ts)
fields_opened w k ts = sym (ap (opened_in w) (outs-Tree k ts))
