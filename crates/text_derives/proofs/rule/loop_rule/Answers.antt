use Rattle.std.proofs.Common.{sym, ap, ◌∙◌}
use Rattle.swc_tree_node.specs.declared.node.Node.TheOpen.{Node-F}
use Rattle.text_derives.specs.Rules.{loop_rule}
use Rattle.text_derives.proofs.Fields.{for_of_fields}
use Rattle.text_derives.proofs.rule.loop_rule.Goals as goal

pub returns-in-ForOfStmt : goal.returns-in-ForOfStmt
returns-in-ForOfStmt c =
    c.for_of_rule.ensures
    ∙ for_of_fields c.args.context c.args.fields.now c.index-fields-1-in-ForOfStmt.result c.index-fields-2.result c.if-fields-eq5-2.true c.index-fields-1-in-ForOfStmt.is c.index-fields-2.is
    ∙ ap (λ k. loop_rule c.args.context (Node-F.Tree k c.args.fields.now)) (sym c.in-ForOfStmt.is)
