use Rattle.mucwathi_answers.proofs.Worked.{told_either}
use Rattle.mucwathi_answers.proofs.rewriting.answer_as_module.Goals as goal

pub returns-in-Err : goal.returns-in-Err
returns-in-Err c = told_either c.args.task.now c.args.of c.args.fault c.in-Err.other c.further.result c.further.ensures c.requires.told c.in-Err.ensures
