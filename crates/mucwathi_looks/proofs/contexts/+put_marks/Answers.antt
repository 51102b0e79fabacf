use Rattle.std.proofs.Common.{◌∙◌, arith, length-set}
use Rattle.swc_tree_node.proofs.Lent.{set_next}
use Rattle.mucwathi_looks.specs.Given.{signed}
use Rattle.mucwathi_looks.proofs.Others.{set_other}
use Rattle.mucwathi_looks.proofs.contexts.+put_marks.Goals as goal

pub put_marks_on_all-loop-i-preserved : goal.put_marks_on_all-loop-i-preserved
put_marks_on_all-loop-i-preserved t c = record {
  size = simp length-set c.loop-i.invariant.size;
  rest = λ k d h. set_other c.loop-i.nodes c.loop-i.i k c.put_marks.new.node d (omega (arith, h)) ∙ c.loop-i.invariant.rest k d (omega (arith, h));
  done = λ rises.
      set_next (signed c.args.signs.now) c.args.nodes.now c.loop-i.nodes c.loop-i.i c.item_mut.result.now c.put_marks.new.node (omega arith) (c.loop-i.invariant.done rises) c.item_mut.ensures.value (c.in_ok-put_marks.ensures rises);
}
