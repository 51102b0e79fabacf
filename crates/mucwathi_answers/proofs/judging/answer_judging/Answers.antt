use Rattle.mucwathi_answers.proofs.Judged.{told_fault, told_verdict}
use Rattle.mucwathi_answers.proofs.judging.answer_judging.Goals as goal

pub returns-in-Ok : goal.returns-in-Ok
returns-in-Ok c = told_verdict c.args.task.now c.args.before c.args.after c.in-Ok.said c.told.result c.told.ensures c.in-Ok.ensures

pub returns-in-Err : goal.returns-in-Err
returns-in-Err c = told_fault c.args.task.now c.args.before c.args.after c.in-Err.fault c.unjudged.result c.unjudged.ensures c.in-Err.ensures
