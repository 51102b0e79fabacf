use Rattle.std.proofs.Common.{arith}
use Rattle.text_commented.proofs.Sets.{none_written, one_written}
use Rattle.text_commented.proofs.check.are_written.Goals as goal

pub comments-preserved : goal.comments-preserved
comments-preserved c = λ after.
    let l = c.comments in
    l.invariant (one_written c.args.whole.now c.args.found.now c.args.due.now l.i _ _ (omega arith) (omega arith) (c.is_written.ensures c.if-not-is_written.false) after)

pub returns : goal.returns
returns c = λ yes.
    let l = c.comments in
    l.invariant (none_written c.args.whole.now c.args.found.now c.args.due.now l.i (omega arith) (omega arith))
