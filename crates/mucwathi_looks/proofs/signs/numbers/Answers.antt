use Rattle.std.proofs.Common.{arith, ◌∙◌, take_all}
use Rattle.mucwathi_looks.proofs.Signed.{number_more}
use Rattle.mucwathi_looks.proofs.signs.numbers.Goals as goal

pub loop-mark-preserved : goal.loop-mark-preserved
loop-mark-preserved c =
    let l = c.loop-mark in
    number_more c.args.marks.now l.mark-index c.mark-item.result c.as_u32.result l.numbers.items c.push.new.self.items c.loop-mark-test.true c.mark-item.is c.as_u32.ensures c.in_ok-push.ensures.items l.invariant

pub returns : goal.returns
returns c = c.loop-mark.invariant ∙ take_all c.loop-mark.mark-index c.args.marks.now (omega arith)
