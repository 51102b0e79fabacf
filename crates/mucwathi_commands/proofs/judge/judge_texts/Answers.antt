use Rattle.mucwathi_commands.proofs.Judged.{first_fault}
use Rattle.mucwathi_commands.proofs.judge.judge_texts.Goals as goal

pub returns-in-Err : goal.returns-in-Err
returns-in-Err c = first_fault c.args.rules.now.spelling c.args.before.now.goal c.args.after.now.goal c.args.before.now.text.now c.args.after.now.text.now c.in-Err.fault c.in-Err.ensures
