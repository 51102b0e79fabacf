use Rattle.std.proofs.Common.{sym, ap, ◌∙◌}
use Rattle.swc_tree_node.specs.declared.node.Node.TheOpen.{Node-F}
use Rattle.text_derives.specs.Rules.{statement_rule}
use Rattle.text_derives.proofs.Fields.{if_fields}
use Rattle.text_derives.proofs.rule.statement_rule.Goals as goal

pub returns-in-IfStmt : goal.returns-in-IfStmt
returns-in-IfStmt c =
    c.if_rule.ensures
    ∙ if_fields c.args.context c.args.fields.now c.index-fields-2.result c.index-fields-3.result c.if-fields-eq4.true c.index-fields-2.is c.index-fields-3.is
    ∙ ap (λ k. statement_rule c.args.context (Node-F.Tree k c.args.fields.now)) (sym c.in-IfStmt.is)
