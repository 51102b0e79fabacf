use Rattle.std.proofs.Common.{sym, ap, ◌∙◌}
use Rattle.swc_tree_node.specs.declared.node.Node.TheOpen.{Node-F}
use Rattle.swc_base_writable_rules.specs.declared.ask.Ask.TheVariants as ask
use Rattle.swc_base_writable_rules.specs.declared.ask.Row.TheVariants as row
use Rattle.swc_base_writable_rules.specs.Rules.{pattern_rule, rule}
use Rattle.swc_base_writable_rules.proofs.Fields.{property_rule}
use Rattle.swc_base_writable_rules.proofs.rule.pattern_rule.Goals as goal

pub returns-in-KeyValuePatProp : goal.returns-in-KeyValuePatProp
returns-in-KeyValuePatProp c =
    c.two.ensures ∙ ap (λ q. rule c.is_part-holds.result (row.Two 0 (ask.Sound q) 1 (ask.Sound c.args.round))) c.binding-in-KeyValuePatProp.ensures
    ∙ property_rule c.args.round c.args.fields.now c.index-fields-1-in-KeyValuePatProp.result c.is_part-holds.result c.if-fields-eq2-3.true c.index-fields-1-in-KeyValuePatProp.is c.is_part-holds.ensures
    ∙ ap (λ k. pattern_rule c.args.round (Node-F.Tree k c.args.fields.now)) (sym c.in-KeyValuePatProp.is)
