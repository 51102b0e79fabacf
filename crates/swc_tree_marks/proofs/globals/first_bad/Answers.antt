use Rattle.std.proofs.Common.{arith}
use Rattle.swc_tree_marks.proofs.Tables.{IsTable-all, IsTable-take_more}
use Rattle.swc_tree_marks.proofs.globals.first_bad.Goals as goal

pub loop-i-preserved : goal.loop-i-preserved
loop-i-preserved c = IsTable-take_more c.args.table.now c.loop-i.i (omega arith) c.loop-i.invariant (c.follows.ensures.0 c.if-not-follows.false)

pub returns : goal.returns
returns c = IsTable-all c.args.table.now c.loop-i.i (omega arith) c.loop-i.invariant
