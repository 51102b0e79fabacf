use Rattle.std.proofs.Common.{arith, length-set}
use Rattle.swc_tree_node.proofs.Lent.{set_next}
use Rattle.swc_base_normal_form.specs.Forms.{as_part}
use Rattle.swc_base_normal_form.proofs.forms.write_each.Goals as goal

pub loop-i-preserved : goal.loop-i-preserved
loop-i-preserved c = record {
  long = simp length-set c.loop-i.invariant.long;
  written = set_next (as_part c.args.part) c.args.items.now c.loop-i.items c.loop-i.i c.item_mut.result.now c.write_part.new.node (omega arith) c.loop-i.invariant.written c.item_mut.ensures.value c.in_ok-write_part.ensures;
}
