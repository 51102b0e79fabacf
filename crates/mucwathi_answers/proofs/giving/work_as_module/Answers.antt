use Rattle.mucwathi_answers.proofs.Given.{told_either}
use Rattle.mucwathi_answers.proofs.giving.work_as_module.Goals as goal

pub returns-in-Ok : goal.returns-in-Ok
returns-in-Ok c = (_, c.requires.asked, c.in-Ok.ensures)

pub returns-in-Err : goal.returns-in-Err
returns-in-Err c = told_either c.args.task.now c.args.of c.args.fault c.in-Err.other c.further.result c.further.ensures c.requires.told (_, c.requires.asked, c.in-Err.ensures)
