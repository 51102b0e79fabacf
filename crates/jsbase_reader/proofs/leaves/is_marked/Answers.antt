use Rattle.jsbase_reader.proofs.Marks.{marked_is}
use Rattle.jsbase_reader.proofs.leaves.is_marked.Goals as goal

pub returns-then-number-ne0 : goal.returns-then-number-ne0
returns-then-number-ne0 c = marked_is c.args.globals.now c.args.number c.from_u32.result c.knows.result c.from_u32.ensures c.if-number-ne0.true c.knows.ensures
