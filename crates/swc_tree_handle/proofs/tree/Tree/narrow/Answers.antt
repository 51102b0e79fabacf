use Rattle.swc_tree_handle.proofs.Handles.{identifier_moves, tree_moves}
use Rattle.swc_tree_handle.proofs.tree.Tree.narrow.Goals as goal

pub from_node-requires : goal.from_node-requires
from_node-requires g c = identifier_moves _ c.in-Identifier.ident _ _ c.in-Identifier.ensures.fits (rw c.in-Identifier.ensures.same c.requires)

pub from_node-requires-in-Tree : goal.from_node-requires-in-Tree
from_node-requires-in-Tree g c = tree_moves _ c.in-Tree.fields _ _ c.in-Tree.ensures.fits (rw c.in-Tree.ensures.same c.requires)
