use Rattle.swc_tree_marks.proofs.Search.{known_from_place}
use Rattle.swc_tree_marks.proofs.globals.is_known.Goals as goal

pub returns-else-number-eq0 : goal.returns-else-number-eq0
returns-else-number-eq0 c = rw c.is_some.ensures (known_from_place c.args.table.now c.args.number _ c.if-number-eq0.false c.place_of.ensures)
