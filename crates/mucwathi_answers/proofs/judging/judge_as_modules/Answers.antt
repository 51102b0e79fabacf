use Rattle.mucwathi_answers.proofs.Judged.{told_either}
use Rattle.mucwathi_answers.proofs.judging.judge_as_modules.Goals as goal

pub returns-in-Err : goal.returns-in-Err
returns-in-Err c =
    told_either c.args.task.now c.args.before c.args.after c.args.fault c.in-Err.other c.further.result c.further.ensures c.requires c.in-Err.ensures
