use Rattle.std.proofs.Common.{sym, ap, ◌∙◌}
use Rattle.swc_tree_node.specs.declared.node.Node.TheOpen.{Node-F}
use Rattle.swc_base_writable_rules.specs.declared.ask.Ask.TheVariants as ask
use Rattle.swc_base_writable_rules.specs.declared.ask.Row.TheVariants as row
use Rattle.swc_base_writable_rules.specs.Rules.{member_rule, rule}
use Rattle.swc_base_writable_rules.proofs.Fields.{method_rule, private_rule}
use Rattle.swc_base_writable_rules.proofs.rule.member_rule.Goals as goal

pub returns-in-ClassMethod : goal.returns-in-ClassMethod
returns-in-ClassMethod c =
    c.two.ensures ∙ ap (λ q. rule c.is_accessor-holds.result (row.Two 1 (ask.Sound q) 2 (ask.Sound c.args.round))) c.binding.ensures
    ∙ method_rule c.args.round c.args.fields.now c.index-fields-2.result c.index-fields-3.result c.is_accessor-holds.result c.if-fields-eq5.true c.index-fields-2.is c.index-fields-3.is c.is_accessor-holds.ensures
    ∙ ap (λ k. member_rule c.args.round (Node-F.Tree k c.args.fields.now)) (sym c.in-ClassMethod.is)

pub returns-in-PrivateMethod : goal.returns-in-PrivateMethod
returns-in-PrivateMethod c =
    c.one.ensures
    ∙ private_rule c.args.round c.args.fields.now c.index-fields-2-in-PrivateMethod.result c.index-fields-3-in-PrivateMethod.result c.is_accessor-holds-in-PrivateMethod.result
    c.if-fields-eq5-2.true c.index-fields-2-in-PrivateMethod.is c.index-fields-3-in-PrivateMethod.is c.is_accessor-holds-in-PrivateMethod.ensures
    ∙ ap (λ k. member_rule c.args.round (Node-F.Tree k c.args.fields.now)) (sym c.in-PrivateMethod.is)
