use Rattle.swc_tree_walk.proofs.Found.{is_below, is_here}
use Rattle.swc_tree_walk.proofs.finder.+has_node.Goals as goal

pub has_node-returns-then-is_sought : goal.has_node-returns-then-is_sought
has_node-returns-then-is_sought g t c = is_here (g.F.Finder.is_sought c.args.finder.now) c.args.tree.now c.is_sought.result c.is_sought.ensures c.if-is_sought.true

pub has_node-returns : goal.has_node-returns
has_node-returns g t c = is_below (g.F.Finder.is_sought c.args.finder.now) c.args.tree.now c.is_sought.result c.any_has_node.result c.children.result.now c.children.ensures c.is_sought.ensures c.if-is_sought.false c.any_has_node.ensures
