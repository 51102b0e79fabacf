-- Which node each struct and sum is.
--
-- Printed by tools/print_table.py from tools/tree.txt.
use Rattle.std.specs.Prelude.{[], ◌∷◌}
use Rattle.std.specs.Option.{option_map}
use Rattle.swc_tree_node.specs.declared.kind.Kind.TheVariants as kind
use Rattle.swc_tree_node.specs.declared.kind.Word.{Word}
use Rattle.swc_tree_node.specs.declared.kind.Word.TheVariants as word
use Rattle.swc_tree_node.specs.declared.node.Node.{Node}
use Rattle.swc_tree_node.specs.declared.node.Node.TheVariants as node
use Rattle.swc_tree_leaves.specs.declared.meta_prop_kind.MetaPropKind.{MetaPropKind}
use Rattle.swc_tree_leaves.specs.declared.meta_prop_kind.MetaPropKind.TheVariants as meta_prop_kind
use Rattle.swc_tree_leaves.specs.declared.binding_ident.BindingIdent.{BindingIdent}
use Rattle.swc_tree_leaves.specs.declared.ident_name.IdentName.{IdentName}
use Rattle.swc_tree_leaves.specs.declared.private_name.PrivateName.{PrivateName}
use Rattle.swc_tree_leaves.specs.declared.str.Str.{Str}
use Rattle.swc_tree_leaves.specs.declared.bool.Bool.{Bool}
use Rattle.swc_tree_leaves.specs.declared.null.Null.{Null}
use Rattle.swc_tree_leaves.specs.declared.number.Number.{Number}
use Rattle.swc_tree_leaves.specs.declared.big_int.BigInt.{BigInt}
use Rattle.swc_tree_leaves.specs.declared.regex.Regex.{Regex}
use Rattle.swc_tree_leaves.specs.declared.tpl_element.TplElement.{TplElement}
use Rattle.swc_tree_leaves.specs.declared.this_expr.ThisExpr.{ThisExpr}
use Rattle.swc_tree_leaves.specs.declared.super_.Super.{Super}
use Rattle.swc_tree_leaves.specs.declared.import.Import.{Import}
use Rattle.swc_tree_leaves.specs.declared.meta_prop_expr.MetaPropExpr.{MetaPropExpr}
use Rattle.swc_tree_leaves.specs.declared.empty_stmt.EmptyStmt.{EmptyStmt}
use Rattle.swc_tree_leaves.specs.declared.debugger_stmt.DebuggerStmt.{DebuggerStmt}
use Rattle.swc_tree_leaves.specs.declared.break_stmt.BreakStmt.{BreakStmt}
use Rattle.swc_tree_leaves.specs.declared.continue_stmt.ContinueStmt.{ContinueStmt}
use Rattle.swc_tree_leaves.specs.declared.module_export_name.ModuleExportName.{ModuleExportName}
use Rattle.swc_tree_leaves.specs.declared.module_export_name.ModuleExportName.TheVariants as module_export_name
use Rattle.swc_tree_leaves.specs.declared.lit.Lit.{Lit}
use Rattle.swc_tree_leaves.specs.declared.lit.Lit.TheVariants as lit
use Rattle.swc_tree_handle.specs.Handles.{ident_node, optional_node, optional_text}

abbrev pub meta_prop_kind_word : MetaPropKind → Word
meta_prop_kind_word meta_prop_kind.NewTarget = word.NewTarget
meta_prop_kind_word meta_prop_kind.ImportMeta = word.ImportMeta

abbrev pub binding_ident_node : BindingIdent → Node
binding_ident_node x = node.Identifier kind.BindingIdent x.id

abbrev pub ident_name_node : IdentName → Node
ident_name_node x = node.Tree kind.IdentName (node.Span x.span ∷ node.Text x.sym ∷ [])

abbrev pub private_name_node : PrivateName → Node
private_name_node x = node.Tree kind.PrivateName (node.Span x.span ∷ node.Text x.name ∷ [])

abbrev pub str_node : Str → Node
str_node x = node.Tree kind.Str (node.Span x.span ∷ node.Text x.value ∷ optional_text x.raw ∷ [])

abbrev pub bool_node : Bool → Node
bool_node x = node.Tree kind.Bool (node.Span x.span ∷ node.Flag x.value ∷ [])

abbrev pub null_node : Null → Node
null_node x = node.Tree kind.Null (node.Span x.span ∷ [])

abbrev pub number_node : Number → Node
number_node x = node.Tree kind.Number (node.Span x.span ∷ node.Text x.text ∷ [])

abbrev pub big_int_node : BigInt → Node
big_int_node x = node.Tree kind.BigInt (node.Span x.span ∷ node.Text x.text ∷ [])

abbrev pub regex_node : Regex → Node
regex_node x = node.Tree kind.Regex (node.Span x.span ∷ node.Text x.exp ∷ node.Text x.flags ∷ [])

abbrev pub tpl_element_node : TplElement → Node
tpl_element_node x = node.Tree kind.TplElement (node.Span x.span ∷ node.Flag x.tail ∷ optional_text x.cooked ∷ node.Text x.raw ∷ [])

abbrev pub this_expr_node : ThisExpr → Node
this_expr_node x = node.Tree kind.ThisExpr (node.Span x.span ∷ [])

abbrev pub super_node : Super → Node
super_node x = node.Tree kind.Super (node.Span x.span ∷ [])

abbrev pub import_node : Import → Node
import_node x = node.Tree kind.Import (node.Span x.span ∷ [])

abbrev pub meta_prop_expr_node : MetaPropExpr → Node
meta_prop_expr_node x = node.Tree kind.MetaPropExpr (node.Span x.span ∷ node.Word (meta_prop_kind_word x.kind) ∷ [])

abbrev pub empty_stmt_node : EmptyStmt → Node
empty_stmt_node x = node.Tree kind.EmptyStmt (node.Span x.span ∷ [])

abbrev pub debugger_stmt_node : DebuggerStmt → Node
debugger_stmt_node x = node.Tree kind.DebuggerStmt (node.Span x.span ∷ [])

abbrev pub break_stmt_node : BreakStmt → Node
break_stmt_node x = node.Tree kind.BreakStmt (node.Span x.span ∷ optional_node (option_map ident_node x.label) ∷ [])

abbrev pub continue_stmt_node : ContinueStmt → Node
continue_stmt_node x = node.Tree kind.ContinueStmt (node.Span x.span ∷ optional_node (option_map ident_node x.label) ∷ [])

abbrev pub of_module_export_name : ModuleExportName → Node
of_module_export_name (module_export_name.Ident x) = ident_node x
of_module_export_name (module_export_name.Str x) = str_node x

abbrev pub of_lit : Lit → Node
of_lit (lit.Str x) = str_node x
of_lit (lit.Bool x) = bool_node x
of_lit (lit.Null x) = null_node x
of_lit (lit.Num x) = number_node x
of_lit (lit.BigInt x) = big_int_node x
of_lit (lit.Regex x) = regex_node x
