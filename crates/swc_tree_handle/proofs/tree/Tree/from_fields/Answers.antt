use Rattle.swc_tree_node.proofs.Fit.{tree_closes}
use Rattle.swc_tree_handle.proofs.tree.Tree.from_fields.Goals as goal

pub from_node-requires : goal.from_node-requires
from_node-requires g c = tree_closes c.args.kind c.args.fields g.C.Syntax.class c.requires.plain c.requires.belongs c.requires.fit
