use Rattle.std.proofs.Common.{◌++◌, ap, ◌∙◌, arith}
use Rattle.mucwathi_looks.proofs.Rows.{marks_done, marks_more}
use Rattle.mucwathi_looks.proofs.table.add_marks.Goals as goal

pub signs-preserved : goal.signs-preserved
signs-preserved c =
    let l = c.signs in
    marks_more c.args.signs.now l.i _ c.args.marks.now.items l.marks.items c.extend_from_slice.new.self.items (omega arith) l.invariant (c.in_ok-extend_from_slice.ensures.items ∙ ap (λ x. l.marks.items ++ x) c.as_slice.ensures.value)

pub returns : goal.returns
returns c = marks_done c.args.signs.now c.signs.i c.args.marks.now.items c.signs.marks.items (omega arith) c.signs.invariant
