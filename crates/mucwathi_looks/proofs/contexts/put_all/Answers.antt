use Rattle.std.proofs.Common.{arith}
use Rattle.mucwathi_looks.proofs.Rows.{all_put, put_more}
use Rattle.mucwathi_looks.proofs.contexts.put_all.Goals as goal

pub marks-preserved : goal.marks-preserved
marks-preserved c =
    let l = c.marks in
    put_more c.args.ctxt.now l.ctxt c.apply_mark.new.self c.args.marks.now l.i c.from_u32.result (omega arith) l.invariant c.from_u32.ensures c.in_ok-apply_mark.ensures.ok

pub returns : goal.returns
returns c = all_put c.args.ctxt.now c.marks.ctxt c.args.marks.now c.marks.i (omega arith) c.marks.invariant
