-- The kinds that the variants before leave are those of the last one.
--
-- Printed by tools/print_table.py from tools/tree.txt.
use Rattle.swc_tree_handle.proofs.Handles.{other, is_of_kind}
use Rattle.swc_tree_node.specs.declared.kind.Class.TheVariants as class
use Rattle.swc_tree_node.specs.declared.kind.Kind.TheVariants as kind
use Rattle.swc_tree_statements.proofs.for_head.ForHeadOpenedClassForHead.from_node.Goals as goal

pub narrow-requires-in_default : goal.narrow-requires-in_default
narrow-requires-in_default c = is_of_kind _ _ class.Pat c.kind.ensures.is (other _ kind.UsingDecl _ (other _ kind.VarDecl _ (c.kind.ensures.belongs) c.in_default.not-VarDecl) c.in_default.not-UsingDecl)
