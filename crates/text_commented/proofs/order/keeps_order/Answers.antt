use Rattle.std.proofs.Common.{[], refl, arith}
use Rattle.text_commented.proofs.InOrder.{all_kept, none_covered, one_kept}
use Rattle.text_commented.proofs.order.keeps_order.Goals as goal

pub placed-init : goal.placed-init
placed-init c = λ keeps. keeps [] (none_covered c.args.remarks.now c.new-near.result.items)

pub placed-preserved : goal.placed-preserved
placed-preserved c = λ after.
    let l = c.placed in
    let come = rw c.deref.ensures.value at (c.come_before.ensures c.if-not-come_before.false) in
    l.invariant
    (one_kept c.args.remarks.now c.args.pieces.now _ c.args.placed.now l.i _ l.at l.near.items c.pass.new.near.items c.add_near.new.near.items (omega arith) (omega arith) refl c.pass.ensures come
    c.in_ok-add_near.ensures after)

pub returns : goal.returns
returns c = λ yes.
    let l = c.placed in
    l.invariant (all_kept c.args.remarks.now c.args.pieces.now c.args.placed.now l.i l.at l.near.items (omega arith))
