-- Which node each struct and sum is.
--
-- Printed by tools/print_table.py from tools/tree.txt.
use Rattle.std.specs.Prelude.{[], ◌∷◌}
use Rattle.swc_tree_node.specs.declared.kind.Kind.TheVariants as kind
use Rattle.swc_tree_node.specs.declared.kind.Word.{Word}
use Rattle.swc_tree_node.specs.declared.kind.Word.TheVariants as word
use Rattle.swc_tree_node.specs.declared.node.Node.{Node}
use Rattle.swc_tree_node.specs.declared.node.Node.TheVariants as node
use Rattle.swc_tree_statements.specs.declared.var_decl_kind.VarDeclKind.{VarDeclKind}
use Rattle.swc_tree_statements.specs.declared.var_decl_kind.VarDeclKind.TheVariants as var_decl_kind
use Rattle.swc_tree_statements.specs.declared.class_decl.ClassDecl.{ClassDecl}
use Rattle.swc_tree_statements.specs.declared.fn_decl.FnDecl.{FnDecl}
use Rattle.swc_tree_statements.specs.declared.var_decl.VarDecl.{VarDecl}
use Rattle.swc_tree_statements.specs.declared.using_decl.UsingDecl.{UsingDecl}
use Rattle.swc_tree_statements.specs.declared.var_declarator.VarDeclarator.{VarDeclarator}
use Rattle.swc_tree_statements.specs.declared.block_stmt.BlockStmt.{BlockStmt}
use Rattle.swc_tree_statements.specs.declared.expr_stmt.ExprStmt.{ExprStmt}
use Rattle.swc_tree_statements.specs.declared.with_stmt.WithStmt.{WithStmt}
use Rattle.swc_tree_statements.specs.declared.return_stmt.ReturnStmt.{ReturnStmt}
use Rattle.swc_tree_statements.specs.declared.throw_stmt.ThrowStmt.{ThrowStmt}
use Rattle.swc_tree_statements.specs.declared.labeled_stmt.LabeledStmt.{LabeledStmt}
use Rattle.swc_tree_statements.specs.declared.if_stmt.IfStmt.{IfStmt}
use Rattle.swc_tree_statements.specs.declared.switch_stmt.SwitchStmt.{SwitchStmt}
use Rattle.swc_tree_statements.specs.declared.switch_case.SwitchCase.{SwitchCase}
use Rattle.swc_tree_statements.specs.declared.try_stmt.TryStmt.{TryStmt}
use Rattle.swc_tree_statements.specs.declared.catch_clause.CatchClause.{CatchClause}
use Rattle.swc_tree_statements.specs.declared.while_stmt.WhileStmt.{WhileStmt}
use Rattle.swc_tree_statements.specs.declared.do_while_stmt.DoWhileStmt.{DoWhileStmt}
use Rattle.swc_tree_statements.specs.declared.for_stmt.ForStmt.{ForStmt}
use Rattle.swc_tree_statements.specs.declared.for_in_stmt.ForInStmt.{ForInStmt}
use Rattle.swc_tree_statements.specs.declared.for_of_stmt.ForOfStmt.{ForOfStmt}
use Rattle.swc_tree_statements.specs.declared.decl.Decl.{Decl}
use Rattle.swc_tree_statements.specs.declared.decl.Decl.TheVariants as decl
use Rattle.swc_tree_statements.specs.declared.stmt.Stmt.{Stmt}
use Rattle.swc_tree_statements.specs.declared.stmt.Stmt.TheVariants as stmt
use Rattle.swc_tree_statements.specs.declared.block_stmt_or_expr.BlockStmtOrExpr.{BlockStmtOrExpr}
use Rattle.swc_tree_statements.specs.declared.block_stmt_or_expr.BlockStmtOrExpr.TheVariants as block_stmt_or_expr
use Rattle.swc_tree_statements.specs.declared.var_decl_or_expr.VarDeclOrExpr.{VarDeclOrExpr}
use Rattle.swc_tree_statements.specs.declared.var_decl_or_expr.VarDeclOrExpr.TheVariants as var_decl_or_expr
use Rattle.swc_tree_statements.specs.declared.for_head.ForHead.{ForHead}
use Rattle.swc_tree_statements.specs.declared.for_head.ForHead.TheVariants as for_head
use Rattle.swc_tree_handle.specs.Handles.{ident_node, optional_node}
use Rattle.swc_tree_leaves.specs.Nodes.{break_stmt_node, continue_stmt_node, debugger_stmt_node, empty_stmt_node}
use Rattle.swc_tree_patterns.specs.Nodes.{of_pat}
use Rattle.swc_tree_types.specs.Nodes.{ts_enum_decl_node, ts_interface_decl_node, ts_module_decl_node, ts_type_alias_decl_node}

abbrev pub var_decl_kind_word : VarDeclKind → Word
var_decl_kind_word var_decl_kind.Var = word.Var
var_decl_kind_word var_decl_kind.Let = word.Let
var_decl_kind_word var_decl_kind.Const = word.Const

abbrev pub class_decl_node : ClassDecl → Node
class_decl_node x = node.Tree kind.ClassDecl (ident_node x.ident ∷ x.class_ ∷ [])

abbrev pub fn_decl_node : FnDecl → Node
fn_decl_node x = node.Tree kind.FnDecl (ident_node x.ident ∷ x.function ∷ [])

abbrev pub var_decl_node : VarDecl → Node
var_decl_node x = node.Tree kind.VarDecl (node.Span x.span ∷ node.Word (var_decl_kind_word x.kind) ∷ node.List x.decls ∷ [])

abbrev pub using_decl_node : UsingDecl → Node
using_decl_node x = node.Tree kind.UsingDecl (node.Span x.span ∷ node.Flag x.is_await ∷ node.List x.decls ∷ [])

abbrev pub var_declarator_node : VarDeclarator → Node
var_declarator_node x = node.Tree kind.VarDeclarator (node.Span x.span ∷ x.name ∷ optional_node x.init ∷ [])

abbrev pub block_stmt_node : BlockStmt → Node
block_stmt_node x = node.Tree kind.BlockStmt (node.Span x.span ∷ node.List x.stmts ∷ [])

abbrev pub expr_stmt_node : ExprStmt → Node
expr_stmt_node x = node.Tree kind.ExprStmt (node.Span x.span ∷ x.expr ∷ [])

abbrev pub with_stmt_node : WithStmt → Node
with_stmt_node x = node.Tree kind.WithStmt (node.Span x.span ∷ x.obj ∷ x.body ∷ [])

abbrev pub return_stmt_node : ReturnStmt → Node
return_stmt_node x = node.Tree kind.ReturnStmt (node.Span x.span ∷ optional_node x.arg ∷ [])

abbrev pub throw_stmt_node : ThrowStmt → Node
throw_stmt_node x = node.Tree kind.ThrowStmt (node.Span x.span ∷ x.arg ∷ [])

abbrev pub labeled_stmt_node : LabeledStmt → Node
labeled_stmt_node x = node.Tree kind.LabeledStmt (node.Span x.span ∷ ident_node x.label ∷ x.body ∷ [])

abbrev pub if_stmt_node : IfStmt → Node
if_stmt_node x = node.Tree kind.IfStmt (node.Span x.span ∷ x.test ∷ x.cons ∷ optional_node x.alt ∷ [])

abbrev pub switch_stmt_node : SwitchStmt → Node
switch_stmt_node x = node.Tree kind.SwitchStmt (node.Span x.span ∷ x.discriminant ∷ node.List x.cases ∷ [])

abbrev pub switch_case_node : SwitchCase → Node
switch_case_node x = node.Tree kind.SwitchCase (node.Span x.span ∷ optional_node x.test ∷ node.List x.cons ∷ [])

abbrev pub try_stmt_node : TryStmt → Node
try_stmt_node x = node.Tree kind.TryStmt (node.Span x.span ∷ x.block ∷ optional_node x.handler ∷ optional_node x.finalizer ∷ [])

abbrev pub catch_clause_node : CatchClause → Node
catch_clause_node x = node.Tree kind.CatchClause (node.Span x.span ∷ optional_node x.param ∷ x.body ∷ [])

abbrev pub while_stmt_node : WhileStmt → Node
while_stmt_node x = node.Tree kind.WhileStmt (node.Span x.span ∷ x.test ∷ x.body ∷ [])

abbrev pub do_while_stmt_node : DoWhileStmt → Node
do_while_stmt_node x = node.Tree kind.DoWhileStmt (node.Span x.span ∷ x.body ∷ x.test ∷ [])

abbrev pub for_stmt_node : ForStmt → Node
for_stmt_node x = node.Tree kind.ForStmt (node.Span x.span ∷ optional_node x.init ∷ optional_node x.test ∷ optional_node x.update ∷ x.body ∷ [])

abbrev pub for_in_stmt_node : ForInStmt → Node
for_in_stmt_node x = node.Tree kind.ForInStmt (node.Span x.span ∷ x.left ∷ x.right ∷ x.body ∷ [])

abbrev pub for_of_stmt_node : ForOfStmt → Node
for_of_stmt_node x = node.Tree kind.ForOfStmt (node.Span x.span ∷ node.Flag x.is_await ∷ x.left ∷ x.right ∷ x.body ∷ [])

abbrev pub of_decl : Decl → Node
of_decl (decl.Class x) = class_decl_node x
of_decl (decl.Fn x) = fn_decl_node x
of_decl (decl.Var x) = var_decl_node x
of_decl (decl.Using x) = using_decl_node x
of_decl (decl.TsInterface x) = ts_interface_decl_node x
of_decl (decl.TsTypeAlias x) = ts_type_alias_decl_node x
of_decl (decl.TsEnum x) = ts_enum_decl_node x
of_decl (decl.TsModule x) = ts_module_decl_node x

abbrev pub of_stmt : Stmt → Node
of_stmt (stmt.Block x) = block_stmt_node x
of_stmt (stmt.Empty x) = empty_stmt_node x
of_stmt (stmt.Debugger x) = debugger_stmt_node x
of_stmt (stmt.With x) = with_stmt_node x
of_stmt (stmt.Return x) = return_stmt_node x
of_stmt (stmt.Labeled x) = labeled_stmt_node x
of_stmt (stmt.Break x) = break_stmt_node x
of_stmt (stmt.Continue x) = continue_stmt_node x
of_stmt (stmt.If x) = if_stmt_node x
of_stmt (stmt.Switch x) = switch_stmt_node x
of_stmt (stmt.Throw x) = throw_stmt_node x
of_stmt (stmt.Try x) = try_stmt_node x
of_stmt (stmt.While x) = while_stmt_node x
of_stmt (stmt.DoWhile x) = do_while_stmt_node x
of_stmt (stmt.For x) = for_stmt_node x
of_stmt (stmt.ForIn x) = for_in_stmt_node x
of_stmt (stmt.ForOf x) = for_of_stmt_node x
of_stmt (stmt.Decl x) = of_decl x
of_stmt (stmt.Expr x) = expr_stmt_node x

abbrev pub of_block_stmt_or_expr : BlockStmtOrExpr → Node
of_block_stmt_or_expr (block_stmt_or_expr.BlockStmt x) = block_stmt_node x
of_block_stmt_or_expr (block_stmt_or_expr.Expr x) = x

abbrev pub of_var_decl_or_expr : VarDeclOrExpr → Node
of_var_decl_or_expr (var_decl_or_expr.VarDecl x) = var_decl_node x
of_var_decl_or_expr (var_decl_or_expr.Expr x) = x

abbrev pub of_for_head : ForHead → Node
of_for_head (for_head.VarDecl x) = var_decl_node x
of_for_head (for_head.UsingDecl x) = using_decl_node x
of_for_head (for_head.Pat x) = of_pat x
