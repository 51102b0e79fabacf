use Rattle.std.proofs.Common.{arith}
use Rattle.text_commented.proofs.Sets.{all_passed, one_passed}
use Rattle.text_commented.proofs.check.Walk.pass_all.Goals as goal

pub pieces-preserved : goal.pieces-preserved
pieces-preserved c = λ rs more after.
    let l = c.pieces in
    l.invariant rs more (one_passed c.args.source.comments c.args.source.whole.now rs c.args.pieces.now l.i _ l.self c.pass.new.self more (omega arith) (c.in_ok-pass.ensures rs) after)

pub returns : goal.returns
returns c = λ rs more after.
    let l = c.pieces in
    l.invariant rs more (all_passed c.args.source.comments c.args.source.whole.now rs c.args.pieces.now l.i l.self more (omega arith) after)
