use Rattle.std.proofs.Common.{◌∙◌}
use Rattle.mucwathi_looks.specs.Given.{marks_of}
use Rattle.mucwathi_looks.proofs.Rows.{has_marks}
use Rattle.mucwathi_looks.proofs.table.table_of.Goals as goal

pub returns-in-Ok : goal.returns-in-Ok
returns-in-Ok c =
    has_marks (marks_of c.args.signs.now) c.in_ok-marks.marks.items c.in_ok-rows.rows.items c.in-Ok.globals c.in_ok-marks.ensures c.in_ok-rows.ensures.below_root
    (rw c.as_slice.ensures.value at c.in_ok-rows.ensures.marks) (c.in-Ok.ensures.pairs ∙ c.as_slice-2.ensures.value) (rw c.as_slice-2.ensures.value at c.in-Ok.ensures.well_formed)
