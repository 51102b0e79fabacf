use Rattle.mucwathi_answers.proofs.Worked.{fault_answered, well_answered}
use Rattle.mucwathi_answers.proofs.rewriting.answer_text.Goals as goal

pub returns-in-Ok : goal.returns-in-Ok
returns-in-Ok c = well_answered c.args.task.now c.args.prefix.now c.args.of c.in-Ok.answer c.in-Ok.ensures

pub returns-in-Err : goal.returns-in-Err
returns-in-Err c = fault_answered c.args.task.now c.args.prefix.now c.args.of c.in-Err.fault c.fault.result c.in-Err.ensures c.fault.ensures
