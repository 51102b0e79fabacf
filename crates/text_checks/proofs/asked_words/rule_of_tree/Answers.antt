use Rattle.swc_tree_node.specs.declared.node.Node.{Tree}
use Rattle.text_checks.specs.Words.{fits}
use Rattle.text_checks.proofs.Read.{met_unasked}
use Rattle.text_checks.proofs.Worded.{of_fields}
use Rattle.text_checks.proofs.asked_words.rule_of_tree.Goals as goal

pub returns-then-ask : goal.returns-then-ask
returns-then-ask c kept = of_fields c.args.ask c.args.kind c.args.fields.now c.rule_of.result c.if-ask.true c.rule_of.ensures kept

pub returns-else-ask : goal.returns-else-ask
returns-else-ask c kept = met_unasked c.args.ask (fits (Tree c.args.kind c.args.fields.now)) c.if-ask.false
