use Rattle.mucwathi_answers.proofs.Given.{answered_otherwise, answered_plainly}
use Rattle.mucwathi_answers.proofs.rewriting.answer_rewriting.Goals as goal

pub returns-then-is_plain : goal.returns-then-is_plain
returns-then-is_plain c = answered_plainly c.args.task.now c.args.prefix.now c.args.of c.is_plain.result c.answer_text.result c.is_plain.ensures c.if-is_plain.true c.answer_text.ensures

pub returns-else-is_plain : goal.returns-else-is_plain
returns-else-is_plain c = answered_otherwise c.args.task.now c.args.prefix.now c.args.of c.is_plain.result c.answer_given.result c.is_plain.ensures c.giving.result c.giving.ensures c.if-is_plain.false c.answer_given.ensures
