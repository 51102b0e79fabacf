use Rattle.swc_tree_node.proofs.Same.{answers}
use Rattle.swc_tree_node.proofs.compare.NodePartialEq.eq.Goals as goal

pub returns-clause-is : goal.returns-clause-is
returns-clause-is c = answers c.args.self.now c.args.other.now c.equals.result c.equals.ensures
