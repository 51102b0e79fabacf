-- Which node each struct and sum is.
--
-- Printed by tools/print_table.py from tools/tree.txt.
use Rattle.std.specs.Prelude.{[], ◌∷◌}
use Rattle.swc_tree_node.specs.declared.kind.Kind.TheVariants as kind
use Rattle.swc_tree_node.specs.declared.kind.Word.{Word}
use Rattle.swc_tree_node.specs.declared.kind.Word.TheVariants as word
use Rattle.swc_tree_node.specs.declared.node.Node.{Node}
use Rattle.swc_tree_node.specs.declared.node.Node.TheVariants as node
use Rattle.swc_tree_operations.specs.declared.unary_op.UnaryOp.{UnaryOp}
use Rattle.swc_tree_operations.specs.declared.unary_op.UnaryOp.TheVariants as unary_op
use Rattle.swc_tree_operations.specs.declared.update_op.UpdateOp.{UpdateOp}
use Rattle.swc_tree_operations.specs.declared.update_op.UpdateOp.TheVariants as update_op
use Rattle.swc_tree_operations.specs.declared.binary_op.BinaryOp.{BinaryOp}
use Rattle.swc_tree_operations.specs.declared.binary_op.BinaryOp.TheVariants as binary_op
use Rattle.swc_tree_operations.specs.declared.assign_op.AssignOp.{AssignOp}
use Rattle.swc_tree_operations.specs.declared.assign_op.AssignOp.TheVariants as assign_op
use Rattle.swc_tree_operations.specs.declared.array_lit.ArrayLit.{ArrayLit}
use Rattle.swc_tree_operations.specs.declared.expr_or_spread.ExprOrSpread.{ExprOrSpread}
use Rattle.swc_tree_operations.specs.declared.object_lit.ObjectLit.{ObjectLit}
use Rattle.swc_tree_operations.specs.declared.spread_element.SpreadElement.{SpreadElement}
use Rattle.swc_tree_operations.specs.declared.key_value_prop.KeyValueProp.{KeyValueProp}
use Rattle.swc_tree_operations.specs.declared.unary_expr.UnaryExpr.{UnaryExpr}
use Rattle.swc_tree_operations.specs.declared.update_expr.UpdateExpr.{UpdateExpr}
use Rattle.swc_tree_operations.specs.declared.bin_expr.BinExpr.{BinExpr}
use Rattle.swc_tree_operations.specs.declared.assign_expr.AssignExpr.{AssignExpr}
use Rattle.swc_tree_operations.specs.declared.member_expr.MemberExpr.{MemberExpr}
use Rattle.swc_tree_operations.specs.declared.super_prop_expr.SuperPropExpr.{SuperPropExpr}
use Rattle.swc_tree_operations.specs.declared.cond_expr.CondExpr.{CondExpr}
use Rattle.swc_tree_operations.specs.declared.call_expr.CallExpr.{CallExpr}
use Rattle.swc_tree_operations.specs.declared.new_expr.NewExpr.{NewExpr}
use Rattle.swc_tree_operations.specs.declared.seq_expr.SeqExpr.{SeqExpr}
use Rattle.swc_tree_operations.specs.declared.paren_expr.ParenExpr.{ParenExpr}
use Rattle.swc_tree_operations.specs.declared.await_expr.AwaitExpr.{AwaitExpr}
use Rattle.swc_tree_operations.specs.declared.yield_expr.YieldExpr.{YieldExpr}
use Rattle.swc_tree_operations.specs.declared.tpl.Tpl.{Tpl}
use Rattle.swc_tree_operations.specs.declared.tagged_tpl.TaggedTpl.{TaggedTpl}
use Rattle.swc_tree_operations.specs.declared.opt_chain_expr.OptChainExpr.{OptChainExpr}
use Rattle.swc_tree_operations.specs.declared.opt_call.OptCall.{OptCall}
use Rattle.swc_tree_handle.specs.Handles.{optional_list, optional_node, optional_span}
use Rattle.swc_tree_leaves.specs.Nodes.{super_node}

abbrev pub unary_op_word : UnaryOp → Word
unary_op_word unary_op.Minus = word.Minus
unary_op_word unary_op.Plus = word.Plus
unary_op_word unary_op.Bang = word.Bang
unary_op_word unary_op.Tilde = word.Tilde
unary_op_word unary_op.TypeOf = word.TypeOf
unary_op_word unary_op.Void = word.Void
unary_op_word unary_op.Delete = word.Delete

abbrev pub update_op_word : UpdateOp → Word
update_op_word update_op.PlusPlus = word.PlusPlus
update_op_word update_op.MinusMinus = word.MinusMinus

abbrev pub binary_op_word : BinaryOp → Word
binary_op_word binary_op.EqEq = word.EqEq
binary_op_word binary_op.NotEq = word.NotEq
binary_op_word binary_op.EqEqEq = word.EqEqEq
binary_op_word binary_op.NotEqEq = word.NotEqEq
binary_op_word binary_op.Lt = word.Lt
binary_op_word binary_op.LtEq = word.LtEq
binary_op_word binary_op.Gt = word.Gt
binary_op_word binary_op.GtEq = word.GtEq
binary_op_word binary_op.LShift = word.LShift
binary_op_word binary_op.RShift = word.RShift
binary_op_word binary_op.ZeroFillRShift = word.ZeroFillRShift
binary_op_word binary_op.Add = word.Plus
binary_op_word binary_op.Sub = word.Minus
binary_op_word binary_op.Mul = word.Mul
binary_op_word binary_op.Div = word.Div
binary_op_word binary_op.Mod = word.Mod
binary_op_word binary_op.BitOr = word.BitOr
binary_op_word binary_op.BitXor = word.BitXor
binary_op_word binary_op.BitAnd = word.BitAnd
binary_op_word binary_op.LogicalOr = word.LogicalOr
binary_op_word binary_op.LogicalAnd = word.LogicalAnd
binary_op_word binary_op.In = word.In
binary_op_word binary_op.InstanceOf = word.InstanceOf
binary_op_word binary_op.Exp = word.Exp
binary_op_word binary_op.NullishCoalescing = word.NullishCoalescing

abbrev pub assign_op_word : AssignOp → Word
assign_op_word assign_op.Assign = word.Assign
assign_op_word assign_op.AddAssign = word.AddAssign
assign_op_word assign_op.SubAssign = word.SubAssign
assign_op_word assign_op.MulAssign = word.MulAssign
assign_op_word assign_op.DivAssign = word.DivAssign
assign_op_word assign_op.ModAssign = word.ModAssign
assign_op_word assign_op.LShiftAssign = word.LShiftAssign
assign_op_word assign_op.RShiftAssign = word.RShiftAssign
assign_op_word assign_op.ZeroFillRShiftAssign = word.ZeroFillRShiftAssign
assign_op_word assign_op.BitOrAssign = word.BitOrAssign
assign_op_word assign_op.BitXorAssign = word.BitXorAssign
assign_op_word assign_op.BitAndAssign = word.BitAndAssign
assign_op_word assign_op.ExpAssign = word.ExpAssign
assign_op_word assign_op.AndAssign = word.AndAssign
assign_op_word assign_op.OrAssign = word.OrAssign
assign_op_word assign_op.NullishAssign = word.NullishAssign

abbrev pub array_lit_node : ArrayLit → Node
array_lit_node x = node.Tree kind.ArrayLit (node.Span x.span ∷ node.List x.elems ∷ [])

abbrev pub expr_or_spread_node : ExprOrSpread → Node
expr_or_spread_node x = node.Tree kind.ExprOrSpread (optional_span x.spread ∷ x.expr ∷ [])

abbrev pub object_lit_node : ObjectLit → Node
object_lit_node x = node.Tree kind.ObjectLit (node.Span x.span ∷ node.List x.props ∷ [])

abbrev pub spread_element_node : SpreadElement → Node
spread_element_node x = node.Tree kind.SpreadElement (node.Span x.dot3_token ∷ x.expr ∷ [])

abbrev pub key_value_prop_node : KeyValueProp → Node
key_value_prop_node x = node.Tree kind.KeyValueProp (x.key ∷ x.value ∷ [])

abbrev pub unary_expr_node : UnaryExpr → Node
unary_expr_node x = node.Tree kind.UnaryExpr (node.Span x.span ∷ node.Word (unary_op_word x.op) ∷ x.arg ∷ [])

abbrev pub update_expr_node : UpdateExpr → Node
update_expr_node x = node.Tree kind.UpdateExpr (node.Span x.span ∷ node.Word (update_op_word x.op) ∷ node.Flag x.prefix ∷ x.arg ∷ [])

abbrev pub bin_expr_node : BinExpr → Node
bin_expr_node x = node.Tree kind.BinExpr (node.Span x.span ∷ node.Word (binary_op_word x.op) ∷ x.left ∷ x.right ∷ [])

abbrev pub assign_expr_node : AssignExpr → Node
assign_expr_node x = node.Tree kind.AssignExpr (node.Span x.span ∷ node.Word (assign_op_word x.op) ∷ x.left ∷ x.right ∷ [])

abbrev pub member_expr_node : MemberExpr → Node
member_expr_node x = node.Tree kind.MemberExpr (node.Span x.span ∷ x.obj ∷ x.prop ∷ [])

abbrev pub super_prop_expr_node : SuperPropExpr → Node
super_prop_expr_node x = node.Tree kind.SuperPropExpr (node.Span x.span ∷ super_node x.obj ∷ x.prop ∷ [])

abbrev pub cond_expr_node : CondExpr → Node
cond_expr_node x = node.Tree kind.CondExpr (node.Span x.span ∷ x.test ∷ x.cons ∷ x.alt ∷ [])

abbrev pub call_expr_node : CallExpr → Node
call_expr_node x = node.Tree kind.CallExpr (node.Span x.span ∷ x.callee ∷ node.List x.args ∷ [])

abbrev pub new_expr_node : NewExpr → Node
new_expr_node x = node.Tree kind.NewExpr (node.Span x.span ∷ x.callee ∷ optional_list x.args ∷ [])

abbrev pub seq_expr_node : SeqExpr → Node
seq_expr_node x = node.Tree kind.SeqExpr (node.Span x.span ∷ node.List x.exprs ∷ [])

abbrev pub paren_expr_node : ParenExpr → Node
paren_expr_node x = node.Tree kind.ParenExpr (node.Span x.span ∷ x.expr ∷ [])

abbrev pub await_expr_node : AwaitExpr → Node
await_expr_node x = node.Tree kind.AwaitExpr (node.Span x.span ∷ x.arg ∷ [])

abbrev pub yield_expr_node : YieldExpr → Node
yield_expr_node x = node.Tree kind.YieldExpr (node.Span x.span ∷ optional_node x.arg ∷ node.Flag x.delegate ∷ [])

abbrev pub tpl_node : Tpl → Node
tpl_node x = node.Tree kind.Tpl (node.Span x.span ∷ node.List x.exprs ∷ node.List x.quasis ∷ [])

abbrev pub tagged_tpl_node : TaggedTpl → Node
tagged_tpl_node x = node.Tree kind.TaggedTpl (node.Span x.span ∷ x.tag ∷ x.tpl ∷ [])

abbrev pub opt_chain_expr_node : OptChainExpr → Node
opt_chain_expr_node x = node.Tree kind.OptChainExpr (node.Span x.span ∷ node.Flag x.optional ∷ x.base ∷ [])

abbrev pub opt_call_node : OptCall → Node
opt_call_node x = node.Tree kind.OptCall (node.Span x.span ∷ x.callee ∷ node.List x.args ∷ [])
