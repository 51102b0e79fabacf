-- What a tree becomes, each of whose nodes is made anew.
use Rattle.std.specs.Prelude.{List}
use Rattle.swc_tree_node.specs.declared.node.Node.{Node, List as Many, Tree, out-Node, roll-Node}
use Rattle.swc_tree_node.specs.declared.node.Node.TheOpen.{Node-F}
use Rattle.swc_tree_scoping.specs.declared.places.Place.{Place}
use Rattle.swc_tree_scoping.specs.Folds.{fold_in_place}

-- a node with other children
abbrev pub with_children : Node-F Node → List Node → Node
with_children (Node-F.List ts) us = Many us
with_children (Node-F.Tree k ts) us = Tree k us
with_children y us = roll-Node y

-- each node is made anew in its place, once its children are; its place is that which it had in the tree before
abbrev pub rewritten : (Place → Node → Node) → Place → Node → Node
rewritten made = fold_in_place (λ w t below. made w (with_children (out-Node t) below))
