use Rattle.std.proofs.Common.{arith, length-set}
use Rattle.swc_base_tables_injection.proofs.Lists.{one_more}
use Rattle.swc_base_tables_injection.proofs.members.+walk.Goals as goal
use Rattle.swc_base_tables_injection.specs.Walk.{seats}

pub write_each-loop-i-preserved : goal.write_each-loop-i-preserved
write_each-loop-i-preserved t c = record {
  size = simp (c.set.ensures, c.replace-node.ensures.list, length-set) c.loop-i.invariant.size;
  done = one_more c.args.helper (seats c.args.below) c.args.nodes c.loop-i.nodes _ _ c.loop-i.i _ _ _ c.seat_below.result
      (omega arith) c.loop-i.invariant.done c.replace-node.ensures.taken c.replace-node.ensures.list c.set.ensures c.seat_below.ensures c.in_ok-node.ensures;
}
