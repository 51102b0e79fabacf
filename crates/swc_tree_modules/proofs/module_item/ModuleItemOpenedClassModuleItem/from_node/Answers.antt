-- The kinds that the variants before leave are those of the last one.
--
-- Printed by tools/print_table.py from tools/tree.txt.
use Rattle.swc_tree_handle.proofs.Handles.{other, is_of_kind}
use Rattle.swc_tree_node.specs.declared.kind.Class.TheVariants as class
use Rattle.swc_tree_node.specs.declared.kind.Kind.TheVariants as kind
use Rattle.swc_tree_modules.proofs.module_item.ModuleItemOpenedClassModuleItem.from_node.Goals as goal

pub narrow-requires-in_default : goal.narrow-requires-in_default
narrow-requires-in_default c = is_of_kind _ _ class.Stmt c.kind.ensures.is (other _ kind.ExportAll _ (other _ kind.ExportDefaultExpr _ (other _ kind.ExportDefaultDecl _ (other _ kind.NamedExport _ (other _ kind.ExportDecl _ (other _ kind.ImportDecl _ (c.kind.ensures.belongs) c.in_default.not-ImportDecl) c.in_default.not-ExportDecl) c.in_default.not-NamedExport) c.in_default.not-ExportDefaultDecl) c.in_default.not-ExportDefaultExpr) c.in_default.not-ExportAll)
