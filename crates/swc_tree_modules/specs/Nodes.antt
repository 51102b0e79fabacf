-- Which node each struct and sum is.
--
-- Printed by tools/print_table.py from tools/tree.txt.
use Rattle.std.specs.Prelude.{[], ◌∷◌}
use Rattle.std.specs.Option.{option_map}
use Rattle.swc_tree_node.specs.declared.kind.Kind.TheVariants as kind
use Rattle.swc_tree_node.specs.declared.node.Node.{Node}
use Rattle.swc_tree_node.specs.declared.node.Node.TheVariants as node
use Rattle.swc_tree_modules.specs.declared.module_.Module.{Module}
use Rattle.swc_tree_modules.specs.declared.script.Script.{Script}
use Rattle.swc_tree_modules.specs.declared.import_decl.ImportDecl.{ImportDecl}
use Rattle.swc_tree_modules.specs.declared.import_named_specifier.ImportNamedSpecifier.{ImportNamedSpecifier}
use Rattle.swc_tree_modules.specs.declared.import_default_specifier.ImportDefaultSpecifier.{ImportDefaultSpecifier}
use Rattle.swc_tree_modules.specs.declared.import_star_as_specifier.ImportStarAsSpecifier.{ImportStarAsSpecifier}
use Rattle.swc_tree_modules.specs.declared.export_decl.ExportDecl.{ExportDecl}
use Rattle.swc_tree_modules.specs.declared.named_export.NamedExport.{NamedExport}
use Rattle.swc_tree_modules.specs.declared.export_namespace_specifier.ExportNamespaceSpecifier.{ExportNamespaceSpecifier}
use Rattle.swc_tree_modules.specs.declared.export_named_specifier.ExportNamedSpecifier.{ExportNamedSpecifier}
use Rattle.swc_tree_modules.specs.declared.export_default_decl.ExportDefaultDecl.{ExportDefaultDecl}
use Rattle.swc_tree_modules.specs.declared.export_default_expr.ExportDefaultExpr.{ExportDefaultExpr}
use Rattle.swc_tree_modules.specs.declared.export_all.ExportAll.{ExportAll}
use Rattle.swc_tree_modules.specs.declared.module_decl.ModuleDecl.{ModuleDecl}
use Rattle.swc_tree_modules.specs.declared.module_decl.ModuleDecl.TheVariants as module_decl
use Rattle.swc_tree_modules.specs.declared.module_item.ModuleItem.{ModuleItem}
use Rattle.swc_tree_modules.specs.declared.module_item.ModuleItem.TheVariants as module_item
use Rattle.swc_tree_modules.specs.declared.import_specifier.ImportSpecifier.{ImportSpecifier}
use Rattle.swc_tree_modules.specs.declared.import_specifier.ImportSpecifier.TheVariants as import_specifier
use Rattle.swc_tree_modules.specs.declared.export_specifier.ExportSpecifier.{ExportSpecifier}
use Rattle.swc_tree_modules.specs.declared.export_specifier.ExportSpecifier.TheVariants as export_specifier
use Rattle.swc_tree_modules.specs.declared.default_decl.DefaultDecl.{DefaultDecl}
use Rattle.swc_tree_modules.specs.declared.default_decl.DefaultDecl.TheVariants as default_decl
use Rattle.swc_tree_functions.specs.Nodes.{class_expr_node, fn_expr_node}
use Rattle.swc_tree_handle.specs.Handles.{ident_node, optional_list, optional_node, optional_text}
use Rattle.swc_tree_leaves.specs.Nodes.{str_node}
use Rattle.swc_tree_statements.specs.Nodes.{of_stmt}

abbrev pub module_node : Module → Node
module_node x = node.Tree kind.Module (node.Span x.span ∷ node.List x.body ∷ optional_text x.shebang ∷ [])

abbrev pub script_node : Script → Node
script_node x = node.Tree kind.Script (node.Span x.span ∷ node.List x.body ∷ optional_text x.shebang ∷ [])

abbrev pub import_decl_node : ImportDecl → Node
import_decl_node x = node.Tree kind.ImportDecl (node.Span x.span ∷ node.List x.specifiers ∷ str_node x.src ∷ optional_list x.with_ ∷ [])

abbrev pub import_named_specifier_node : ImportNamedSpecifier → Node
import_named_specifier_node x = node.Tree kind.ImportNamedSpecifier (node.Span x.span ∷ ident_node x.local ∷ optional_node x.imported ∷ [])

abbrev pub import_default_specifier_node : ImportDefaultSpecifier → Node
import_default_specifier_node x = node.Tree kind.ImportDefaultSpecifier (node.Span x.span ∷ ident_node x.local ∷ [])

abbrev pub import_star_as_specifier_node : ImportStarAsSpecifier → Node
import_star_as_specifier_node x = node.Tree kind.ImportStarAsSpecifier (node.Span x.span ∷ ident_node x.local ∷ [])

abbrev pub export_decl_node : ExportDecl → Node
export_decl_node x = node.Tree kind.ExportDecl (node.Span x.span ∷ x.decl ∷ [])

abbrev pub named_export_node : NamedExport → Node
named_export_node x = node.Tree kind.NamedExport (node.Span x.span ∷ node.List x.specifiers ∷ optional_node (option_map str_node x.src) ∷ optional_list x.with_ ∷ [])

abbrev pub export_namespace_specifier_node : ExportNamespaceSpecifier → Node
export_namespace_specifier_node x = node.Tree kind.ExportNamespaceSpecifier (node.Span x.span ∷ x.name ∷ [])

abbrev pub export_named_specifier_node : ExportNamedSpecifier → Node
export_named_specifier_node x = node.Tree kind.ExportNamedSpecifier (node.Span x.span ∷ x.orig ∷ optional_node x.exported ∷ [])

abbrev pub export_default_decl_node : ExportDefaultDecl → Node
export_default_decl_node x = node.Tree kind.ExportDefaultDecl (node.Span x.span ∷ x.decl ∷ [])

abbrev pub export_default_expr_node : ExportDefaultExpr → Node
export_default_expr_node x = node.Tree kind.ExportDefaultExpr (node.Span x.span ∷ x.expr ∷ [])

abbrev pub export_all_node : ExportAll → Node
export_all_node x = node.Tree kind.ExportAll (node.Span x.span ∷ str_node x.src ∷ optional_list x.with_ ∷ [])

abbrev pub of_module_decl : ModuleDecl → Node
of_module_decl (module_decl.Import x) = import_decl_node x
of_module_decl (module_decl.ExportDecl x) = export_decl_node x
of_module_decl (module_decl.ExportNamed x) = named_export_node x
of_module_decl (module_decl.ExportDefaultDecl x) = export_default_decl_node x
of_module_decl (module_decl.ExportDefaultExpr x) = export_default_expr_node x
of_module_decl (module_decl.ExportAll x) = export_all_node x

abbrev pub of_module_item : ModuleItem → Node
of_module_item (module_item.ModuleDecl x) = of_module_decl x
of_module_item (module_item.Stmt x) = of_stmt x

abbrev pub of_import_specifier : ImportSpecifier → Node
of_import_specifier (import_specifier.Named x) = import_named_specifier_node x
of_import_specifier (import_specifier.Default x) = import_default_specifier_node x
of_import_specifier (import_specifier.Namespace x) = import_star_as_specifier_node x

abbrev pub of_export_specifier : ExportSpecifier → Node
of_export_specifier (export_specifier.Namespace x) = export_namespace_specifier_node x
of_export_specifier (export_specifier.Named x) = export_named_specifier_node x

abbrev pub of_default_decl : DefaultDecl → Node
of_default_decl (default_decl.Class x) = class_expr_node x
of_default_decl (default_decl.Fn x) = fn_expr_node x
