use Rattle.std.proofs.Common.{◌∙◌}
use Rattle.swc_base_fixer_due.proofs.Begin.{leads_list, leads_tree}
use Rattle.swc_base_fixer_due.proofs.start.+leading.Goals as goal

pub leads-returns-in-List : goal.leads-returns-in-List
leads-returns-in-List t c = λ p. leads_list p c.args.node.now c.in-List.items c.is_empty.result c.in-List.is c.is_empty.ensures

pub leads-returns-in-Tree : goal.leads-returns-in-Tree
leads-returns-in-Tree t c = λ p.
    c.is_some.ensures ∙ leads_tree p c.args.node.now c.in-Tree.kind c.in-Tree.fields c.as_slice.result.now c.leading_field.result
    c.in-Tree.is c.as_slice.ensures (c.leading_field.ensures.field p) c.leading_field.ensures.within
