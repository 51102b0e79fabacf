use Rattle.std.proofs.Common.{arith}
use Rattle.mucwathi_looks.proofs.ReportedTold.{line_done, part_more, parts_done}
use Rattle.mucwathi_looks.proofs.reports.add_line.Goals as goal

pub loop-part-preserved : goal.loop-part-preserved
loop-part-preserved c =
    let l = c.loop-part in
    part_more c.args.parts.now l.part-index _ l.out.items c.extend_from_slice.new.self.items c.as_bytes.result.now _ c.loop-part-test.true c.as_bytes.ensures.value c.in_ok-extend_from_slice.ensures.items l.invariant

pub returns : goal.returns
returns c =
    let l = c.loop-part in
    line_done c.args.parts.now c.args.out.now.items l.out.items c.push.new.self.items (parts_done c.args.parts.now l.part-index l.out.items _ (omega arith) l.invariant) c.in_ok-push.ensures.items
