use Rattle.swc_tree_marks.proofs.Fresh.{spent_by_sum}
use Rattle.swc_tree_marks.proofs.globals.next_number.Goals as goal

pub returns-clause-spent : goal.returns-clause-spent
returns-clause-spent c = spent_by_sum c.args.table.now c.greatest_number.result c.checked_add.result c.greatest_number.ensures c.greatest_number.type_inv c.checked_add.ensures
