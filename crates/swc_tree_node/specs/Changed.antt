-- A node with other parts.
use Rattle.std.specs.Prelude.{List, Option, Some, None}
use denote.RattleType.{RattleType}
use Rattle.swc_tree_marks.specs.Lower.swc_tree_items.specs.contracts.items.Items as items
use Rattle.swc_tree_marks.specs.Lower.swc_tree_items.specs.contracts.boxed.Boxed as boxed
use Rattle.swc_tree_marks.specs.contracts.ident.Ident as ident
use Rattle.swc_tree_marks.specs.declared.ident.Ident.{Ident}
use Rattle.swc_tree_node.specs.contracts.node.Node.{the_row}
use Rattle.swc_tree_node.specs.declared.node.Node.{Node, Identifier, List as Many, Tree, out-Node, roll-Node}
use Rattle.swc_tree_node.specs.declared.node.Node.TheOpen.{Node-F}

abbrev pub nodes_row : RattleType
nodes_row = items.the_row the_row

abbrev pub nodes_at : Node-F Node → Option (List Node)
nodes_at (Node-F.List ts) = Some ts
nodes_at (Node-F.Tree k ts) = Some ts
nodes_at _ = None

abbrev pub nodes_in : Node → Option (List Node)
nodes_in t = nodes_at (out-Node t)

abbrev pub with_children_at : Node-F Node → List Node → Node
with_children_at (Node-F.List ts) us = Many us
with_children_at (Node-F.Tree k ts) us = Tree k us
with_children_at y us = roll-Node y

-- a list or a tree with other nodes right below
abbrev pub with_children : Node → List Node → Node
with_children t us = with_children_at (out-Node t) us

abbrev pub items_at : Node-F Node → Option (List Node)
items_at (Node-F.List ts) = Some ts
items_at _ = None

abbrev pub items_in : Node → Option (List Node)
items_in t = items_at (out-Node t)

abbrev pub fields_at : Node-F Node → Option (List Node)
fields_at (Node-F.Tree k ts) = Some ts
fields_at _ = None

abbrev pub fields_in : Node → Option (List Node)
fields_in t = fields_at (out-Node t)

abbrev pub with_fields_at : Node-F Node → List Node → Node
with_fields_at (Node-F.Tree k ts) us = Tree k us
with_fields_at y us = roll-Node y

-- a tree with other fields
abbrev pub with_fields : Node → List Node → Node
with_fields t us = with_fields_at (out-Node t) us

abbrev pub ident_row : RattleType
ident_row = boxed.the_row ident.the_row

abbrev pub with_ident_at : Node-F Node → Ident → Node
with_ident_at (Node-F.Identifier k i) x = Identifier k x
with_ident_at y x = roll-Node y

-- an identifier with another
abbrev pub with_ident : Node → Ident → Node
with_ident t x = with_ident_at (out-Node t) x
