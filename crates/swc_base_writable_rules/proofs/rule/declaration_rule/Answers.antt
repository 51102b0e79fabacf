use Rattle.std.proofs.Common.{sym, ap, ◌∙◌}
use Rattle.swc_tree_node.specs.declared.node.Node.TheOpen.{Node-F}
use Rattle.swc_base_writable_rules.specs.Rules.{declaration_rule}
use Rattle.swc_base_writable_rules.proofs.Fields.{variables_rule}
use Rattle.swc_base_writable_rules.proofs.rule.declaration_rule.Goals as goal

pub returns-in-VarDecl : goal.returns-in-VarDecl
returns-in-VarDecl c =
    c.one.ensures
    ∙ variables_rule c.args.round c.args.fields.now c.index-fields-1-in-VarDecl.result c.index-fields-2.result c.are_initialised-holds.result c.if-fields-eq3-2.true c.index-fields-1-in-VarDecl.is c.index-fields-2.is c.are_initialised-holds.ensures
    ∙ ap (λ k. declaration_rule c.args.round (Node-F.Tree k c.args.fields.now)) (sym c.in-VarDecl.is)
