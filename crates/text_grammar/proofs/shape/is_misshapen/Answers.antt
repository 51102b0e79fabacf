use Rattle.std.proofs.Common.{sym, ap, ◌∙◌}
use Rattle.swc_tree_node.specs.declared.node.Node.TheOpen.{Node-F}
use Rattle.text_grammar.specs.Shaped.{is_misshapen}
use Rattle.text_grammar.proofs.Fields.{call_fields}
use Rattle.text_grammar.proofs.shape.is_misshapen.Goals as goal

pub returns-in-CallExpr : goal.returns-in-CallExpr
returns-in-CallExpr c =
    c.is_odd_call.ensures
    ∙ call_fields c.args.fields.now c.index-fields-1-in-CallExpr.result c.index-fields-2-in-CallExpr.result c.if-fields-eq3-4.true c.index-fields-1-in-CallExpr.is c.index-fields-2-in-CallExpr.is
    ∙ ap (λ k. is_misshapen (Node-F.Tree k c.args.fields.now)) (sym c.in-CallExpr.is)
