use Rattle.std.proofs.Common.{arith}
use Rattle.mucwathi_looks.proofs.Rows.{rise_by, rise_more}
use Rattle.mucwathi_looks.proofs.behind.rise.Goals as goal

pub signs-init : goal.signs-init
signs-init c = record { some = omega arith; before = λ a b d less below. absurd (omega arith) }

pub signs-preserved : goal.signs-preserved
signs-preserved c =
    let l = c.signs in
    record {
      some = omega arith;
      before = rise_more c.args.signs.now l.i l.invariant.some (omega arith) (rise_by c.args.signs.now l.i _ _ l.invariant.some (omega arith) (c.is_before.ensures c.if-not-is_before.false)) l.invariant.before;
    }

pub returns : goal.returns
returns c = λ yes a b d less within. c.signs.invariant.before a b d less (omega arith)
