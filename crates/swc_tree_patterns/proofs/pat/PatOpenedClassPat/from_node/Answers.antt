-- The kinds that the variants before leave are those of the last one.
--
-- Printed by tools/print_table.py from tools/tree.txt.
use Rattle.swc_tree_handle.proofs.Handles.{other, is_of_kind}
use Rattle.swc_tree_node.specs.declared.kind.Class.TheVariants as class
use Rattle.swc_tree_node.specs.declared.kind.Kind.TheVariants as kind
use Rattle.swc_tree_patterns.proofs.pat.PatOpenedClassPat.from_node.Goals as goal

pub narrow-requires-in_default : goal.narrow-requires-in_default
narrow-requires-in_default c = is_of_kind _ _ class.Expr c.kind.ensures.is (other _ kind.AssignPat _ (other _ kind.ObjectPat _ (other _ kind.RestPat _ (other _ kind.ArrayPat _ (other _ kind.BindingIdent _ (c.kind.ensures.belongs) c.in_default.not-BindingIdent) c.in_default.not-ArrayPat) c.in_default.not-RestPat) c.in_default.not-ObjectPat) c.in_default.not-AssignPat)
