-- Which node each struct and sum is.
--
-- Printed by tools/print_table.py from tools/tree.txt.
use Rattle.std.specs.Prelude.{[], ◌∷◌}
use Rattle.swc_tree_node.specs.declared.kind.Kind.TheVariants as kind
use Rattle.swc_tree_node.specs.declared.node.Node.{Node}
use Rattle.swc_tree_node.specs.declared.node.Node.TheVariants as node
use Rattle.swc_tree_patterns.specs.declared.array_pat.ArrayPat.{ArrayPat}
use Rattle.swc_tree_patterns.specs.declared.rest_pat.RestPat.{RestPat}
use Rattle.swc_tree_patterns.specs.declared.object_pat.ObjectPat.{ObjectPat}
use Rattle.swc_tree_patterns.specs.declared.assign_pat.AssignPat.{AssignPat}
use Rattle.swc_tree_patterns.specs.declared.key_value_pat_prop.KeyValuePatProp.{KeyValuePatProp}
use Rattle.swc_tree_patterns.specs.declared.assign_pat_prop.AssignPatProp.{AssignPatProp}
use Rattle.swc_tree_patterns.specs.declared.pat.Pat.{Pat}
use Rattle.swc_tree_patterns.specs.declared.pat.Pat.TheVariants as pat
use Rattle.swc_tree_patterns.specs.declared.object_pat_prop.ObjectPatProp.{ObjectPatProp}
use Rattle.swc_tree_patterns.specs.declared.object_pat_prop.ObjectPatProp.TheVariants as object_pat_prop
use Rattle.swc_tree_handle.specs.Handles.{optional_node}
use Rattle.swc_tree_leaves.specs.Nodes.{binding_ident_node}

abbrev pub array_pat_node : ArrayPat → Node
array_pat_node x = node.Tree kind.ArrayPat (node.Span x.span ∷ node.List x.elems ∷ [])

abbrev pub rest_pat_node : RestPat → Node
rest_pat_node x = node.Tree kind.RestPat (node.Span x.span ∷ x.arg ∷ [])

abbrev pub object_pat_node : ObjectPat → Node
object_pat_node x = node.Tree kind.ObjectPat (node.Span x.span ∷ node.List x.props ∷ [])

abbrev pub assign_pat_node : AssignPat → Node
assign_pat_node x = node.Tree kind.AssignPat (node.Span x.span ∷ x.left ∷ x.right ∷ [])

abbrev pub key_value_pat_prop_node : KeyValuePatProp → Node
key_value_pat_prop_node x = node.Tree kind.KeyValuePatProp (x.key ∷ x.value ∷ [])

abbrev pub assign_pat_prop_node : AssignPatProp → Node
assign_pat_prop_node x = node.Tree kind.AssignPatProp (node.Span x.span ∷ binding_ident_node x.key ∷ optional_node x.value ∷ [])

abbrev pub of_pat : Pat → Node
of_pat (pat.Ident x) = binding_ident_node x
of_pat (pat.Array x) = array_pat_node x
of_pat (pat.Rest x) = rest_pat_node x
of_pat (pat.Object x) = object_pat_node x
of_pat (pat.Assign x) = assign_pat_node x
of_pat (pat.Expr x) = x

abbrev pub of_object_pat_prop : ObjectPatProp → Node
of_object_pat_prop (object_pat_prop.KeyValue x) = key_value_pat_prop_node x
of_object_pat_prop (object_pat_prop.Assign x) = assign_pat_prop_node x
of_object_pat_prop (object_pat_prop.Rest x) = rest_pat_node x
