use Rattle.std.proofs.Common.{sym, ◌∙◌, refl, arith}
use Rattle.swc_tree_node.proofs.Lent.{looked_at}
use Rattle.swc_base_rename_units.proofs.Readers.{at_leaf, at_list, at_reader, at_tree, next_without, none_without_parts}
use Rattle.swc_base_rename_units.proofs.eval.+has_eval.Goals as goal

pub has_eval-returns-in-List : goal.has_eval-returns-in-List
has_eval-returns-in-List t c = at_list c.any_has_eval.result c.args.node.now c.in-List.items c.as_slice.result.now c.in-List.is c.as_slice.ensures c.any_has_eval.ensures

pub has_eval-returns-then-reads_names : goal.has_eval-returns-then-reads_names
has_eval-returns-then-reads_names t c =
    at_reader c.reads_names.result c.args.node.now c.in-Tree.kind c.in-Tree.fields c.as_slice-in-Tree.result.now
    c.in-Tree.is c.as_slice-in-Tree.ensures c.reads_names.ensures c.if-reads_names.true

pub has_eval-returns-else-reads_names : goal.has_eval-returns-else-reads_names
has_eval-returns-else-reads_names t c =
    at_tree c.reads_names.result c.any_has_eval-else-reads_names.result c.args.node.now c.in-Tree.kind c.in-Tree.fields c.as_slice-in-Tree.result.now c.as_slice-else-reads_names.result.now
    c.in-Tree.is c.as_slice-in-Tree.ensures c.as_slice-else-reads_names.ensures c.reads_names.ensures c.if-reads_names.false c.any_has_eval-else-reads_names.ensures

pub has_eval-returns-in_default : goal.has_eval-returns-in_default
has_eval-returns-in_default t c = at_leaf c.args.node.now c.in_default.not-List c.in_default.not-Tree

pub any_has_eval-loop-i-preserved-then-not-has_parts : goal.any_has_eval-loop-i-preserved-then-not-has_parts
any_has_eval-loop-i-preserved-then-not-has_parts t c =
    let node = c.index-nodes-i.result in
    next_without c.args.nodes.now c.loop-i.i node (looked_at c.args.nodes.now c.args.nodes.now c.loop-i.i node (omega arith) refl c.index-nodes-i.is)
    (none_without_parts node (sym c.has_parts.ensures ∙ c.if-not-has_parts.true)) c.loop-i.invariant
