use Rattle.std.proofs.Common.{◌≡◌, take}
use Rattle.swc_tree_node.proofs.copies.+copy.Given as goal

abbrev pub invariant-copy_nodes-loop-node : goal.invariant-copy_nodes-loop-node
invariant-copy_nodes-loop-node l = l.others ≡ take l.node-index l.node-items
