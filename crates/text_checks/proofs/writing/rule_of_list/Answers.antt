use Rattle.swc_tree_node.specs.declared.node.Node.{List as Many}
use Rattle.swc_base_writable_rules.specs.Judged.{sounds}
use Rattle.swc_base_writable_rules.proofs.Judged.{seen_met}
use Rattle.text_checks.proofs.Sound.{of_items}
use Rattle.text_checks.proofs.writing.rule_of_list.Goals as goal

pub returns-then-look : goal.returns-then-look
returns-then-look c met ts kept = of_items c.args.look ts met c.if-look.true kept

pub returns-else-look : goal.returns-else-look
returns-else-look c met ts kept = seen_met c.args.look (sounds (Many ts)) met c.if-look.false
