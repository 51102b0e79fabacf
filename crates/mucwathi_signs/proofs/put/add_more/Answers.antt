use Rattle.std.proofs.Common.{◌∙◌}
use Rattle.mucwathi_signs.proofs.Signing.{one_more}
use Rattle.mucwathi_signs.proofs.put.add_more.Goals as goal

pub loop-mark-preserved : goal.loop-mark-preserved
loop-mark-preserved c =
    one_more c.args.marks.now c.loop-mark.mark-index c.args.out.now.items c.loop-mark.out.items c.extend_from_slice.new.self.items c.as_bytes.result.now c.loop-mark-test.true
    (c.as_bytes.ensures.value ∙ c.in_ok-text.ensures.ok) c.loop-mark.invariant c.in_ok-extend_from_slice.ensures.items
