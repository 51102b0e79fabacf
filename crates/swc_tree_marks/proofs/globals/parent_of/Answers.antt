use Rattle.std.proofs.Common.{sym}
use Rattle.swc_tree_marks.proofs.Search.{parent_in-at, parent_in-unknown, no_place}
use Rattle.swc_tree_marks.proofs.globals.parent_of.Goals as goal

pub returns-in-Some : goal.returns-in-Some
returns-in-Some c = sym (parent_in-at c.args.table.now c.requires c.args.number c.in-Some.place c.in-Some.ensures)

pub returns-in-None : goal.returns-in-None
returns-in-None c = sym (parent_in-unknown c.args.table.now c.args.number (no_place c.args.table.now c.args.number c.in-None.ensures))
