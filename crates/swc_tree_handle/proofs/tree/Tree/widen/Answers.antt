use Rattle.swc_tree_handle.proofs.Handles.{identifier_widens, tree_widens}
use Rattle.swc_tree_handle.proofs.tree.Tree.widen.Goals as goal

pub from_node-requires : goal.from_node-requires
from_node-requires g c = identifier_widens _ c.in-Identifier.ident _ _ c.in-Identifier.ensures.fits c.requires

pub from_node-requires-in-Tree : goal.from_node-requires-in-Tree
from_node-requires-in-Tree g c = tree_widens _ c.in-Tree.fields _ _ c.in-Tree.ensures.fits c.requires
