use Rattle.std.proofs.Common.{arith}
use Rattle.mucwathi_looks.proofs.Rows.{behind_more}
use Rattle.mucwathi_looks.proofs.behind.are_behind.Goals as goal

pub signs-preserved : goal.signs-preserved
signs-preserved c =
    let l = c.signs in
    behind_more c.args.places.now c.args.signs.now l.i _ (omega arith) (c.is_listed.ensures c.if-not-is_listed.false) l.invariant

pub returns : goal.returns
returns c = λ so k d within. c.signs.invariant k d (omega arith)
