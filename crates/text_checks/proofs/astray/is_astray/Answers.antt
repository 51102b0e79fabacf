use Rattle.std.proofs.Common.{sym, ap, ◌∙◌}
use Rattle.swc_tree_node.specs.declared.node.Node.TheOpen.{Node-F}
use Rattle.text_checks.specs.Pinned.{is_astray}
use Rattle.text_checks.proofs.PinnedFields.{chain_fields, key_head, operator_fields, value_head}
use Rattle.text_checks.proofs.astray.is_astray.Goals as goal

pub returns-in-OptChainExpr : goal.returns-in-OptChainExpr
returns-in-OptChainExpr c =
    c.asks_nothing.ensures
    ∙ chain_fields c.args.fields.now c.index-fields-1.result c.index-fields-2.result c.if-fields-eq3.true c.index-fields-1.is c.index-fields-2.is
    ∙ ap (λ k. is_astray (Node-F.Tree k c.args.fields.now)) (sym c.in-OptChainExpr.is)

pub returns-in-BinExpr : goal.returns-in-BinExpr
returns-in-BinExpr c =
    c.is_grouped_right.ensures
    ∙ operator_fields c.args.fields.now c.index-fields-1-in-BinExpr.result c.index-fields-3.result c.if-fields-eq4.true c.index-fields-1-in-BinExpr.is c.index-fields-3.is
    ∙ ap (λ k. is_astray (Node-F.Tree k c.args.fields.now)) (sym c.in-BinExpr.is)

pub returns-in-ForInStmt : goal.returns-in-ForInStmt
returns-in-ForInStmt c =
    c.is_astray_head.ensures ∙ key_head c.args.fields.now c.index-fields-1-in-ForInStmt.result c.if-fields-eq4-2.true c.index-fields-1-in-ForInStmt.is
    ∙ ap (λ k. is_astray (Node-F.Tree k c.args.fields.now)) (sym c.in-ForInStmt.is)

pub returns-in-ForOfStmt : goal.returns-in-ForOfStmt
returns-in-ForOfStmt c =
    c.is_astray_head-in-ForOfStmt.ensures ∙ value_head c.args.fields.now c.index-fields-2-in-ForOfStmt.result c.if-fields-eq5-2.true c.index-fields-2-in-ForOfStmt.is
    ∙ ap (λ k. is_astray (Node-F.Tree k c.args.fields.now)) (sym c.in-ForOfStmt.is)
