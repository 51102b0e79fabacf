use Rattle.std.proofs.Common.{◌∙◌}
use Rattle.mucwathi_signs.proofs.Cutting.{written_at}
use Rattle.mucwathi_signs.proofs.cut.is_written.Goals as goal

pub returns : goal.returns
returns c =
    written_at c.args.text.now c.args.from c.args.to c.args.marks.now c.in-Some.part.now c.new-written.result.items c.as_slice.result.now c.eq-same.result (c.in-Some.ensures.lookup.0.0, c.in-Some.ensures.lookup.0.1)
    c.in-Some.ensures.lookup.0.2 c.new-written.ensures.items (c.as_slice.ensures.value ∙ c.in_ok-add_sign.ensures) c.eq-same.ensures
