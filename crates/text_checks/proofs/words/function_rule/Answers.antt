use Rattle.std.proofs.Common.{sym, ap, ◌∙◌}
use Rattle.swc_tree_node.specs.declared.node.Node.TheOpen.{Node-F}
use Rattle.text_checks.specs.Words.{function_rule}
use Rattle.text_checks.proofs.PinnedFields.{flag_fields}
use Rattle.text_checks.proofs.words.function_rule.Goals as goal

pub returns-in-Function : goal.returns-in-Function
returns-in-Function c =
    c.of_function.ensures
    ∙ flag_fields c.args.words c.args.fields.now c.index-fields-3.result c.index-fields-4.result c.if-fields-eq5.true c.index-fields-3.is c.index-fields-4.is
    ∙ ap (λ k. function_rule c.args.words (Node-F.Tree k c.args.fields.now)) (sym c.in-Function.is)
