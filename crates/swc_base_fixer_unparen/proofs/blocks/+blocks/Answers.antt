use Rattle.std.proofs.Common.{arith, length-set, sym, ap, ◌∙◌, length}
use Rattle.swc_tree_grammar.specs.Blocks.{with_blocks}
use Rattle.swc_tree_node.proofs.Lent.{looked_at, next_left, set_next}
use Rattle.swc_base_fixer_unparen.proofs.Leaves.{blocks_leave}
use Rattle.swc_base_fixer_unparen.proofs.blocks.+blocks.Goals as goal
use Rattle.swc_base_fixer_unparen.proofs.blocks.+blocks.Goals.{block_all-then-has_parts+in_ok-block_node, block_all-else-has_parts}

pub block_all-loop-i-preserved : goal.block_all-loop-i-preserved
block_all-loop-i-preserved t c = elim c.if-has_parts.branch [
  | block_all-then-has_parts+in_ok-block_node w ↦ (
    simp (w.items-is, length-set) c.loop-i.invariant.0,
    w.items-is ∙ set_next with_blocks c.args.items.now c.loop-i.items c.loop-i.i w.item_mut.result.now w.block_node.new.node (omega arith) c.loop-i.invariant.1 w.item_mut.ensures.value w.in_ok-block_node.ensures,
  )
  | block_all-else-has_parts w ↦ (
    ap length w.items-is ∙ c.loop-i.invariant.0,
    w.items-is ∙ next_left with_blocks c.args.items.now c.loop-i.items c.loop-i.i c.index-as_slice-i.result (omega arith) c.loop-i.invariant.1
        (looked_at c.loop-i.items c.as_slice.result.now c.loop-i.i c.index-as_slice-i.result (omega arith) c.as_slice.ensures c.index-as_slice-i.is)
        (blocks_leave c.index-as_slice-i.result (sym c.has_parts.ensures ∙ w.if-has_parts.false)),
  )
]
