use Rattle.swc_tree_handle.proofs.Handles.{identifier_opens, kind_of-Identifier, kind_of-Tree, tree_belongs}
use Rattle.swc_tree_handle.proofs.tree.Tree.kind.Goals as goal

pub returns-in-Identifier-clause-is : goal.returns-in-Identifier-clause-is
returns-in-Identifier-clause-is g c = rw (← c.node.ensures.same) (rw c.in-Identifier.is (kind_of-Identifier _ c.in-Identifier.field-1))

pub returns-in-Identifier-clause-belongs : goal.returns-in-Identifier-clause-belongs
returns-in-Identifier-clause-belongs g c = (identifier_opens c.in-Identifier.kind c.in-Identifier.field-1 g.C.Syntax.class (rw (← c.in-Identifier.is) c.node.ensures.fits)).1

pub returns-in-Tree-clause-is : goal.returns-in-Tree-clause-is
returns-in-Tree-clause-is g c = rw (← c.node.ensures.same) (rw c.in-Tree.is (kind_of-Tree _ c.in-Tree.field-1))

pub returns-in-Tree-clause-belongs : goal.returns-in-Tree-clause-belongs
returns-in-Tree-clause-belongs g c = tree_belongs c.in-Tree.kind c.in-Tree.field-1 g.C.Syntax.class (rw (← c.in-Tree.is) c.node.ensures.fits)
