use Rattle.mucwathi_answers.proofs.Worked.{explained, listed, worked}
use Rattle.mucwathi_answers.proofs.rewriting.answer_as.Goals as goal

pub returns-then-task : goal.returns-then-task
returns-then-task c = explained c.args.task.now c.args.prefix.now c.args.of c.args.goal c.explain.result c.order_for-order.result c.order_for-order.ensures c.requires c.if-task.true c.explain.ensures

pub returns-then-task-2 : goal.returns-then-task-2
returns-then-task-2 c = listed c.args.task.now c.args.prefix.now c.args.of c.args.goal c.list.result c.order_for-order.result c.order_for-order.ensures c.requires c.if-task.false c.if-task-2.true c.list.ensures

pub returns : goal.returns
returns c = worked c.args.task.now c.args.prefix.now c.args.of c.args.goal c.rewrite.result c.order_for-order.result c.order_for-order.ensures c.requires c.if-task.false c.if-task-2.false c.rewrite.ensures
