use Rattle.std.proofs.Common.{sym, ap, ◌∙◌}
use Rattle.swc_tree_node.specs.declared.node.Node.TheOpen.{Node-F}
use Rattle.swc_base_writable_rules.specs.Rules.{function_rule}
use Rattle.swc_base_writable_rules.proofs.Fields.{setter_fields}
use Rattle.swc_base_writable_rules.proofs.rule.function_rule.Goals as goal

pub returns-in-SetterProp : goal.returns-in-SetterProp
returns-in-SetterProp c =
    c.setter_rule.ensures
    ∙ setter_fields c.args.round c.args.fields.now c.index-fields-2-in-SetterProp.result c.index-fields-3.result c.if-fields-eq4-3.true c.index-fields-2-in-SetterProp.is c.index-fields-3.is
    ∙ ap (λ k. function_rule c.args.round (Node-F.Tree k c.args.fields.now)) (sym c.in-SetterProp.is)
