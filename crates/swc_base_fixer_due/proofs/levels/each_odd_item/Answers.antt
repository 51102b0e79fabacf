use Rattle.std.proofs.Common.{arith, length-set}
use Rattle.swc_base_fixer_due.specs.Record.{place_in}
use Rattle.swc_base_fixer_due.specs.Settled.{odd_item}
use Rattle.swc_base_fixer_due.proofs.Each.{put_back}
use Rattle.swc_base_fixer_due.proofs.levels.each_odd_item.Goals as goal

pub loop-i-preserved : goal.loop-i-preserved
loop-i-preserved c = (
  simp (c.set.ensures, c.replace-expr.ensures.list, length-set) c.loop-i.invariant.0,
  put_back (odd_item (place_in c.args.recorded.now)) c.args.exprs c.loop-i.exprs _ _ c.loop-i.i _ _ _ (omega arith) c.loop-i.invariant.1 c.replace-expr.ensures.taken c.replace-expr.ensures.list c.set.ensures c.in_ok-done.ensures,
)
