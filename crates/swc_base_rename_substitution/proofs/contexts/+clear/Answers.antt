use Rattle.std.proofs.Common.{arith, length-set, sym, ◌∙◌}
use Rattle.swc_tree_scoping.specs.Readings.{by_texts}
use Rattle.swc_tree_node.proofs.Lent.{looked_at, next_left, set_next}
use Rattle.swc_base_rename_substitution.proofs.Cleared.{cleared_leaf}
use Rattle.swc_base_rename_substitution.proofs.contexts.+clear.Goals as goal

pub clear_all-loop-i-preserved : goal.clear_all-loop-i-preserved
clear_all-loop-i-preserved t c = record {
  size = simp length-set c.loop-i.invariant.size;
  done = set_next by_texts c.args.nodes.now c.loop-i.nodes c.loop-i.i c.item_mut.result.now c.clear.new.node (omega arith) c.loop-i.invariant.done c.item_mut.ensures.value c.clear.ensures;
}

pub clear_all-loop-i-preserved-then-not-may_hold_names : goal.clear_all-loop-i-preserved-then-not-may_hold_names
clear_all-loop-i-preserved-then-not-may_hold_names t c = record {
  size = c.loop-i.invariant.size;
  done = next_left by_texts c.args.nodes.now c.loop-i.nodes c.loop-i.i c.index-as_slice-i.result (omega arith) c.loop-i.invariant.done
      (looked_at c.loop-i.nodes c.as_slice.result.now c.loop-i.i c.index-as_slice-i.result (omega arith) c.as_slice.ensures c.index-as_slice-i.is)
      (cleared_leaf c.index-as_slice-i.result (sym c.may_hold_names.ensures ∙ c.if-not-may_hold_names.true));
}
