-- Which node each struct and sum is.
--
-- Printed by tools/print_table.py from tools/tree.txt.
use Rattle.std.specs.Prelude.{[], ◌∷◌}
use Rattle.std.specs.Option.{option_map}
use Rattle.swc_tree_node.specs.declared.kind.Kind.TheVariants as kind
use Rattle.swc_tree_node.specs.declared.kind.Word.{Word}
use Rattle.swc_tree_node.specs.declared.kind.Word.TheVariants as word
use Rattle.swc_tree_node.specs.declared.node.Node.{Node}
use Rattle.swc_tree_node.specs.declared.node.Node.TheVariants as node
use Rattle.swc_tree_functions.specs.declared.method_kind.MethodKind.{MethodKind}
use Rattle.swc_tree_functions.specs.declared.method_kind.MethodKind.TheVariants as method_kind
use Rattle.swc_tree_functions.specs.declared.function.Function.{Function}
use Rattle.swc_tree_functions.specs.declared.param.Param.{Param}
use Rattle.swc_tree_functions.specs.declared.fn_expr.FnExpr.{FnExpr}
use Rattle.swc_tree_functions.specs.declared.arrow_expr.ArrowExpr.{ArrowExpr}
use Rattle.swc_tree_functions.specs.declared.class.Class.{Class}
use Rattle.swc_tree_functions.specs.declared.class_expr.ClassExpr.{ClassExpr}
use Rattle.swc_tree_functions.specs.declared.constructor.Constructor.{Constructor}
use Rattle.swc_tree_functions.specs.declared.class_method.ClassMethod.{ClassMethod}
use Rattle.swc_tree_functions.specs.declared.private_method.PrivateMethod.{PrivateMethod}
use Rattle.swc_tree_functions.specs.declared.class_prop.ClassProp.{ClassProp}
use Rattle.swc_tree_functions.specs.declared.private_prop.PrivateProp.{PrivateProp}
use Rattle.swc_tree_functions.specs.declared.static_block.StaticBlock.{StaticBlock}
use Rattle.swc_tree_functions.specs.declared.computed_prop_name.ComputedPropName.{ComputedPropName}
use Rattle.swc_tree_functions.specs.declared.method_prop.MethodProp.{MethodProp}
use Rattle.swc_tree_functions.specs.declared.getter_prop.GetterProp.{GetterProp}
use Rattle.swc_tree_functions.specs.declared.setter_prop.SetterProp.{SetterProp}
use Rattle.swc_tree_functions.specs.declared.class_member.ClassMember.{ClassMember}
use Rattle.swc_tree_functions.specs.declared.class_member.ClassMember.TheVariants as class_member
use Rattle.swc_tree_functions.specs.declared.prop_name.PropName.{PropName}
use Rattle.swc_tree_functions.specs.declared.prop_name.PropName.TheVariants as prop_name
use Rattle.swc_tree_handle.specs.Handles.{ident_node, optional_node}
use Rattle.swc_tree_leaves.specs.Nodes.{big_int_node, empty_stmt_node, ident_name_node, number_node, private_name_node, str_node}

abbrev pub method_kind_word : MethodKind → Word
method_kind_word method_kind.Method = word.Method
method_kind_word method_kind.Getter = word.Getter
method_kind_word method_kind.Setter = word.Setter

abbrev pub function_node : Function → Node
function_node x = node.Tree kind.Function (node.Span x.span ∷ node.List x.params ∷ x.body ∷ node.Flag x.is_generator ∷ node.Flag x.is_async ∷ [])

abbrev pub param_node : Param → Node
param_node x = node.Tree kind.Param (node.Span x.span ∷ x.pat ∷ [])

abbrev pub fn_expr_node : FnExpr → Node
fn_expr_node x = node.Tree kind.FnExpr (optional_node (option_map ident_node x.ident) ∷ x.function ∷ [])

abbrev pub arrow_expr_node : ArrowExpr → Node
arrow_expr_node x = node.Tree kind.ArrowExpr (node.Span x.span ∷ node.List x.params ∷ x.body ∷ node.Flag x.is_async ∷ [])

abbrev pub class_node : Class → Node
class_node x = node.Tree kind.Class (node.Span x.span ∷ optional_node x.super_class ∷ node.List x.body ∷ [])

abbrev pub class_expr_node : ClassExpr → Node
class_expr_node x = node.Tree kind.ClassExpr (optional_node (option_map ident_node x.ident) ∷ x.class_ ∷ [])

abbrev pub constructor_node : Constructor → Node
constructor_node x = node.Tree kind.Constructor (node.Span x.span ∷ x.key ∷ node.List x.params ∷ x.body ∷ [])

abbrev pub class_method_node : ClassMethod → Node
class_method_node x = node.Tree kind.ClassMethod (node.Span x.span ∷ x.key ∷ x.function ∷ node.Word (method_kind_word x.kind) ∷ node.Flag x.is_static ∷ [])

abbrev pub private_method_node : PrivateMethod → Node
private_method_node x = node.Tree kind.PrivateMethod (node.Span x.span ∷ private_name_node x.key ∷ x.function ∷ node.Word (method_kind_word x.kind) ∷ node.Flag x.is_static ∷ [])

abbrev pub class_prop_node : ClassProp → Node
class_prop_node x = node.Tree kind.ClassProp (node.Span x.span ∷ x.key ∷ optional_node x.value ∷ node.Flag x.is_static ∷ [])

abbrev pub private_prop_node : PrivateProp → Node
private_prop_node x = node.Tree kind.PrivateProp (node.Span x.span ∷ private_name_node x.key ∷ optional_node x.value ∷ node.Flag x.is_static ∷ [])

abbrev pub static_block_node : StaticBlock → Node
static_block_node x = node.Tree kind.StaticBlock (node.Span x.span ∷ x.body ∷ [])

abbrev pub computed_prop_name_node : ComputedPropName → Node
computed_prop_name_node x = node.Tree kind.ComputedPropName (node.Span x.span ∷ x.expr ∷ [])

abbrev pub method_prop_node : MethodProp → Node
method_prop_node x = node.Tree kind.MethodProp (x.key ∷ x.function ∷ [])

abbrev pub getter_prop_node : GetterProp → Node
getter_prop_node x = node.Tree kind.GetterProp (node.Span x.span ∷ x.key ∷ x.body ∷ [])

abbrev pub setter_prop_node : SetterProp → Node
setter_prop_node x = node.Tree kind.SetterProp (node.Span x.span ∷ x.key ∷ x.param ∷ x.body ∷ [])

abbrev pub of_class_member : ClassMember → Node
of_class_member (class_member.Constructor x) = constructor_node x
of_class_member (class_member.Method x) = class_method_node x
of_class_member (class_member.PrivateMethod x) = private_method_node x
of_class_member (class_member.ClassProp x) = class_prop_node x
of_class_member (class_member.PrivateProp x) = private_prop_node x
of_class_member (class_member.Empty x) = empty_stmt_node x
of_class_member (class_member.StaticBlock x) = static_block_node x

abbrev pub of_prop_name : PropName → Node
of_prop_name (prop_name.Ident x) = ident_name_node x
of_prop_name (prop_name.Str x) = str_node x
of_prop_name (prop_name.Num x) = number_node x
of_prop_name (prop_name.Computed x) = computed_prop_name_node x
of_prop_name (prop_name.BigInt x) = big_int_node x
