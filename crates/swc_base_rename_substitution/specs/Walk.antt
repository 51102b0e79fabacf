-- Words for the parts of the walk.
use Rattle.std.specs.Prelude.{ℕ, zero, suc, ◌≡◌, Bool, true, false, Option, Some, unwrap_or, slice_get, slice_set, List, [], ◌∷◌, ◌++◌, map}
use Rattle.std.specs.List.{flat_map}
use Rattle.swc_tree_marks.specs.declared.ident.Ident.{Ident}
use Rattle.swc_tree_node.specs.declared.kind.Kind.{Kind}
use Rattle.swc_tree_node.specs.declared.kind.Kind.TheVariants as kind
use Rattle.swc_tree_node.specs.declared.node.Node.{Node, Identifier, out-Node}
use Rattle.swc_tree_node.specs.declared.node.Node.TheOpen.{Node-F}
use Rattle.swc_tree_node.specs.Changed.{with_children}
use Rattle.swc_base_rename_substitution.specs.declared.place.Place.{Place}
use Rattle.swc_base_rename_substitution.specs.declared.place.Place.TheVariants as place
use Rattle.swc_base_rename_substitution.specs.declared.place.Below.{Below}
use Rattle.swc_base_rename_substitution.specs.declared.place.Below.TheVariants as below
use Rattle.swc_base_rename_substitution.specs.Places.{place_below}
use Rattle.swc_tree_scoping.specs.Places.{children_in, field_role}
use Rattle.swc_base_rename_substitution.specs.Identifiers.{Changes, changed, written_out_if}
use Rattle.swc_base_rename_substitution.specs.Exports.{items_for, with_exports}
use Rattle.swc_base_rename_substitution.specs.Substituted.{if_changed, each_at, renewed, substituted}

-- the places of a list's items, or of a node's fields
abbrev pub place_in : Bool → Below → ℕ → Place
place_in keeps (below.Items p) i = p
place_in keeps (below.Fields whole sourced k) i = place_below keeps whole sourced k (field_role k i)
place_in keeps (below.Others whole sourced k) (suc zero) = place.Other
place_in keeps (below.Others whole sourced k) i = place_below keeps whole sourced k (field_role k i)

-- each node at its place
abbrev pub each_substituted : Changes → Bool → (ℕ → Place) → List Node → List Node
each_substituted m keeps ps ts = each_at ps (map (renewed m keeps) ts)

-- what the items of a list become
abbrev pub items_substituted : Changes → Bool → Place → List Node → List Node
items_substituted m keeps p ts = flat_map (λ t. items_for m t (substituted m keeps p t)) ts

-- at its place the node becomes what it is, with parts that are given anew each at its own
abbrev pub StaysAs : Bool → Place → Node → Below → Type 0
StaysAs keeps p t b = (m : Changes) → substituted m keeps p t ≡ with_children t (each_substituted m keeps (place_in keeps b) (children_in (out-Node t)))

-- `t` is a node of that kind with these fields, with the identifier in the second renamed as at place `p`
abbrev pub IsRenamed : Changes → Place → Kind → List Node → Node → Type 0
IsRenamed m p k ts t =
    (name_kind : Kind) (i : Ident) → slice_get ts 1 ≡ Some (Identifier name_kind i)
    → t ≡ written_out_if k (if_changed m p (Some i)) (slice_set ts 1 (Identifier name_kind (unwrap_or (changed m p i) i)))

-- items, each with its export list where it has one
abbrev pub each_with_exports : List Node → List (Option Node) → List Node
each_with_exports (t ∷ ts) (exports ∷ lists) = with_exports t exports ++ each_with_exports ts lists
each_with_exports ts lists = []

abbrev pub is_exported_in : Node-F Node → Bool
is_exported_in (Node-F.Tree kind.ExportDecl ts) = true
is_exported_in y = false

-- whether the node is an exported declaration
abbrev pub is_exported_declaration : Node → Bool
is_exported_declaration t = is_exported_in (out-Node t)
