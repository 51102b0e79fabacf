use Rattle.std.proofs.Common.{refl, arith}
use Rattle.std.proofs.lemmas.List.{take_rest}
use Rattle.text_commented.proofs.Sets.{all_placed, one_placed}
use Rattle.text_commented.proofs.check.hold.Goals as goal

pub placed-preserved : goal.placed-preserved
placed-preserved c =
    let l = c.placed in
    record {
      within = omega arith;
      goes_on = λ after.
          l.invariant.goes_on
          (one_placed c.args.source.comments c.args.source.whole.now c.args.remarks.now c.args.pieces.now _ c.args.placed.now l.i _ l.at l.walk c.pass_all.new.self c.expect.new.self (omega arith) (omega arith)
          refl (c.in_ok-pass_all.ensures c.args.remarks.now) (c.in_ok-expect.ensures c.args.source.comments c.args.source.whole.now) after);
    }

pub returns : goal.returns
returns c =
    let l = c.placed in
    l.invariant.goes_on
    (all_placed c.args.source.comments c.args.source.whole.now c.args.remarks.now c.args.pieces.now _ c.args.placed.now l.i l.at l.walk c.pass_all-2.new.self (omega arith)
    (take_rest c.args.pieces.now l.at) (c.in_ok-pass_all-2.ensures c.args.remarks.now) (c.in_ok-end.ensures c.args.remarks.now))
