use Rattle.mucwathi_commands.proofs.Judged.{second_fault}
use Rattle.mucwathi_commands.proofs.judge.judge_second.Goals as goal

pub returns-in-Err : goal.returns-in-Err
returns-in-Err c = second_fault c.args.rules.now.spelling c.args.before.now.goal c.args.after.now.goal c.args.before.now.text.now c.args.after.now.text.now c.in-Err.fault c.in-Err.ensures
