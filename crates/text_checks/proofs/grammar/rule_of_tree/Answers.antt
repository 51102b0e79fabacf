use Rattle.swc_tree_node.specs.declared.node.Node.{Tree}
use Rattle.text_derives.specs.Judged.{derived}
use Rattle.text_derives.proofs.Judged.{seen_met}
use Rattle.text_checks.proofs.Derived.{of_fields}
use Rattle.text_checks.proofs.grammar.rule_of_tree.Goals as goal

pub returns-then-look : goal.returns-then-look
returns-then-look c met kept = of_fields c.args.look c.args.kind c.args.fields.now c.rule_of.result met c.if-look.true c.rule_of.ensures kept

pub returns-else-look : goal.returns-else-look
returns-else-look c met kept = seen_met c.args.look (derived (Tree c.args.kind c.args.fields.now)) met c.if-look.false
