use Rattle.std.proofs.Common.{sym}
use Rattle.swc_tree_marks.proofs.Tables.{last_is_greatest}
use Rattle.swc_tree_marks.proofs.globals.greatest_number.Goals as goal

pub returns-in-Some : goal.returns-in-Some
returns-in-Some c = last_is_greatest c.args.table.now c.requires c.in-Some.row.now (sym c.in-Some.ensures.value)
