-- Which identifiers are bindings and references, and which have their name for another reason.
use Rattle.std.specs.Prelude.{ℕ, Bool, true, false, Option, Some, None, List, [], ◌∷◌, slice_get, if◌then◌else◌}
use Rattle.swc_tree_node.specs.declared.kind.Kind.{Kind}
use Rattle.swc_tree_node.specs.declared.kind.Kind.TheVariants as kind
use Rattle.swc_tree_node.specs.declared.slot.Role.{Role}
use Rattle.swc_tree_node.specs.declared.slot.Role.TheVariants as role
use Rattle.swc_tree_node.specs.declared.fields.modules.named_export.TheConstants as named_export
use Rattle.swc_tree_node.specs.declared.node.Node.{Node, out-Node}
use Rattle.swc_tree_node.specs.declared.node.Node.TheOpen.{Node-F}
use Rattle.swc_tree_scoping.specs.Places.{Path, child, field_role, given, is_there}
use Rattle.swc_base_rename_substitution.specs.declared.place.Place.{Place}
use Rattle.swc_base_rename_substitution.specs.declared.place.Place.TheVariants as place

-- a binding or a reference
abbrev pub is_name : Place → Bool
is_name place.Other = false
is_name place.Exported = false
is_name p = true

-- parts of what binds or means names do so too
abbrev pub within : Place → Place
within p = if is_name p then place.Name else place.Other

-- labels, imported names and exported names are neither bindings nor references; the local side of an export
-- list is a reference, unless the list has a source
abbrev pub by_role : Place → Bool → Role → Place
by_role whole sourced role.Inherited = within whole
by_role whole sourced role.Plain = place.Other
by_role whole sourced role.Label = place.Other
by_role whole sourced role.Imported = place.Other
by_role whole sourced role.Exported = place.Other
by_role whole sourced role.TypeName = place.Other
by_role whole sourced role.TypeReference = place.Other
by_role whole sourced role.ExportLocal = if sourced then place.Other else place.Name
by_role whole sourced r = place.Name

abbrev pub in_kind : Bool → Kind → Place → Place
in_kind keeps kind.ObjectLit place.Name = place.Shorthand
in_kind keeps kind.ExportDecl place.Other = place.Exported
in_kind keeps kind.ClassExpr place.Name = if keeps then place.ClassName else place.Name
in_kind keeps k p = p

-- the place that a field of a node is; `whole` is the node's own
abbrev pub place_below : Bool → Place → Bool → Kind → Role → Place
place_below keeps whole sourced k r = in_kind keeps k (by_role whole sourced r)

-- whether an export list has a source
abbrev pub has_source : List Node → Bool
has_source ts = is_there (slice_get ts named_export.SRC)

-- the places that the fields of a node are, which was that kind with these fields
abbrev pub places : Bool → Place → Kind → List Node → ℕ → Place
places keeps whole k ts i = place_below keeps whole (has_source ts) k (field_role k i)

-- the place of a node's child: an item of a list has that of the list
abbrev pub child_place : Bool → Place → Node-F Node → ℕ → Place
child_place keeps whole (Node-F.Tree k ts) i = places keeps whole k ts i
child_place keeps whole (Node-F.List ts) i = whole
child_place keeps whole y i = place.Other

-- what stands at a path, with its place; `whole` is the place of the tree
abbrev pub place_at : Bool → Place → Node → Path → Option (Place × Node)
place_at keeps whole t [] = Some (whole, t)
place_at keeps whole t (i ∷ p) = given (child t i) None (λ c. place_at keeps (child_place keeps whole (out-Node t) i) c p)
