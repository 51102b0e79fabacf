-- Which node each struct and sum is.
--
-- Printed by tools/print_table.py from tools/tree.txt.
use Rattle.swc_tree_node.specs.declared.node.Node.{Node}
use Rattle.swc_tree_expressions.specs.declared.simple_assign_target.SimpleAssignTarget.{SimpleAssignTarget}
use Rattle.swc_tree_expressions.specs.declared.simple_assign_target.SimpleAssignTarget.TheVariants as simple_assign_target
use Rattle.swc_tree_expressions.specs.declared.assign_target_pat.AssignTargetPat.{AssignTargetPat}
use Rattle.swc_tree_expressions.specs.declared.assign_target_pat.AssignTargetPat.TheVariants as assign_target_pat
use Rattle.swc_tree_expressions.specs.declared.assign_target.AssignTarget.{AssignTarget}
use Rattle.swc_tree_expressions.specs.declared.assign_target.AssignTarget.TheVariants as assign_target
use Rattle.swc_tree_expressions.specs.declared.expr.Expr.{Expr}
use Rattle.swc_tree_expressions.specs.declared.expr.Expr.TheVariants as expr
use Rattle.swc_tree_expressions.specs.declared.prop.Prop.{Prop}
use Rattle.swc_tree_expressions.specs.declared.prop.Prop.TheVariants as prop
use Rattle.swc_tree_expressions.specs.declared.prop_or_spread.PropOrSpread.{PropOrSpread}
use Rattle.swc_tree_expressions.specs.declared.prop_or_spread.PropOrSpread.TheVariants as prop_or_spread
use Rattle.swc_tree_expressions.specs.declared.member_prop.MemberProp.{MemberProp}
use Rattle.swc_tree_expressions.specs.declared.member_prop.MemberProp.TheVariants as member_prop
use Rattle.swc_tree_expressions.specs.declared.super_prop.SuperProp.{SuperProp}
use Rattle.swc_tree_expressions.specs.declared.super_prop.SuperProp.TheVariants as super_prop
use Rattle.swc_tree_expressions.specs.declared.callee.Callee.{Callee}
use Rattle.swc_tree_expressions.specs.declared.callee.Callee.TheVariants as callee
use Rattle.swc_tree_expressions.specs.declared.opt_chain_base.OptChainBase.{OptChainBase}
use Rattle.swc_tree_expressions.specs.declared.opt_chain_base.OptChainBase.TheVariants as opt_chain_base
use Rattle.swc_tree_functions.specs.Nodes.{arrow_expr_node, class_expr_node, computed_prop_name_node, fn_expr_node, getter_prop_node, method_prop_node, setter_prop_node}
use Rattle.swc_tree_handle.specs.Handles.{ident_node}
use Rattle.swc_tree_leaves.specs.Nodes.{binding_ident_node, ident_name_node, import_node, meta_prop_expr_node, of_lit, private_name_node, super_node, this_expr_node}
use Rattle.swc_tree_operations.specs.Nodes.{array_lit_node, assign_expr_node, await_expr_node, bin_expr_node, call_expr_node, cond_expr_node, key_value_prop_node, member_expr_node, new_expr_node, object_lit_node, opt_call_node, opt_chain_expr_node, paren_expr_node, seq_expr_node, spread_element_node, super_prop_expr_node, tagged_tpl_node, tpl_node, unary_expr_node, update_expr_node, yield_expr_node}
use Rattle.swc_tree_patterns.specs.Nodes.{array_pat_node, object_pat_node}

abbrev pub of_simple_assign_target : SimpleAssignTarget → Node
of_simple_assign_target (simple_assign_target.Ident x) = binding_ident_node x
of_simple_assign_target (simple_assign_target.Member x) = member_expr_node x
of_simple_assign_target (simple_assign_target.SuperProp x) = super_prop_expr_node x
of_simple_assign_target (simple_assign_target.Paren x) = paren_expr_node x

abbrev pub of_assign_target_pat : AssignTargetPat → Node
of_assign_target_pat (assign_target_pat.Array x) = array_pat_node x
of_assign_target_pat (assign_target_pat.Object x) = object_pat_node x

abbrev pub of_assign_target : AssignTarget → Node
of_assign_target (assign_target.Simple x) = of_simple_assign_target x
of_assign_target (assign_target.Pat x) = of_assign_target_pat x

abbrev pub of_expr : Expr → Node
of_expr (expr.This x) = this_expr_node x
of_expr (expr.Array x) = array_lit_node x
of_expr (expr.Object x) = object_lit_node x
of_expr (expr.Fn x) = fn_expr_node x
of_expr (expr.Unary x) = unary_expr_node x
of_expr (expr.Update x) = update_expr_node x
of_expr (expr.Bin x) = bin_expr_node x
of_expr (expr.Assign x) = assign_expr_node x
of_expr (expr.Member x) = member_expr_node x
of_expr (expr.SuperProp x) = super_prop_expr_node x
of_expr (expr.Cond x) = cond_expr_node x
of_expr (expr.Call x) = call_expr_node x
of_expr (expr.New x) = new_expr_node x
of_expr (expr.Seq x) = seq_expr_node x
of_expr (expr.Ident x) = ident_node x
of_expr (expr.Lit x) = of_lit x
of_expr (expr.Tpl x) = tpl_node x
of_expr (expr.TaggedTpl x) = tagged_tpl_node x
of_expr (expr.Arrow x) = arrow_expr_node x
of_expr (expr.Class x) = class_expr_node x
of_expr (expr.Yield x) = yield_expr_node x
of_expr (expr.MetaProp x) = meta_prop_expr_node x
of_expr (expr.Await x) = await_expr_node x
of_expr (expr.Paren x) = paren_expr_node x
of_expr (expr.PrivateName x) = private_name_node x
of_expr (expr.OptChain x) = opt_chain_expr_node x

abbrev pub of_prop : Prop → Node
of_prop (prop.Shorthand x) = ident_node x
of_prop (prop.KeyValue x) = key_value_prop_node x
of_prop (prop.Getter x) = getter_prop_node x
of_prop (prop.Setter x) = setter_prop_node x
of_prop (prop.Method x) = method_prop_node x

abbrev pub of_prop_or_spread : PropOrSpread → Node
of_prop_or_spread (prop_or_spread.Spread x) = spread_element_node x
of_prop_or_spread (prop_or_spread.Prop x) = of_prop x

abbrev pub of_member_prop : MemberProp → Node
of_member_prop (member_prop.Ident x) = ident_name_node x
of_member_prop (member_prop.PrivateName x) = private_name_node x
of_member_prop (member_prop.Computed x) = computed_prop_name_node x

abbrev pub of_super_prop : SuperProp → Node
of_super_prop (super_prop.Ident x) = ident_name_node x
of_super_prop (super_prop.Computed x) = computed_prop_name_node x

abbrev pub of_callee : Callee → Node
of_callee (callee.Super x) = super_node x
of_callee (callee.Import x) = import_node x
of_callee (callee.Expr x) = x

abbrev pub of_opt_chain_base : OptChainBase → Node
of_opt_chain_base (opt_chain_base.Member x) = member_expr_node x
of_opt_chain_base (opt_chain_base.Call x) = opt_call_node x
