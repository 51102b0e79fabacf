use Rattle.swc_tree_node.specs.declared.node.Node.{List as Many}
use Rattle.text_checks.specs.Words.{fits}
use Rattle.text_checks.proofs.Read.{met_unasked}
use Rattle.text_checks.proofs.Worded.{of_items}
use Rattle.text_checks.proofs.asked_words.rule_of_list.Goals as goal

pub returns-then-ask : goal.returns-then-ask
returns-then-ask c ts kept = of_items c.args.ask ts c.throughout.result c.if-ask.true c.throughout.ensures kept

pub returns-else-ask : goal.returns-else-ask
returns-else-ask c ts kept = met_unasked c.args.ask (fits (Many ts)) c.if-ask.false
