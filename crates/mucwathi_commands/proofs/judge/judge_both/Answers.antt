use Rattle.mucwathi_commands.proofs.Judged.{clean_program, unjudged}
use Rattle.mucwathi_commands.proofs.judge.judge_both.Goals as goal

pub judge-requires-clause-before : goal.judge-requires-clause-before
judge-requires-clause-before c = clean_program c.args.before.now.goal c.args.before.now.text.now c.args.first c.requires.before

pub judge-requires-clause-after : goal.judge-requires-clause-after
judge-requires-clause-after c = clean_program c.args.after.now.goal c.args.after.now.text.now c.args.second c.requires.after

pub returns-in-Ok : goal.returns-in-Ok
returns-in-Ok c = record { first = c.args.first; second = c.args.second; read_first = c.requires.before; read_second = c.requires.after; tells = c.in-Ok.ensures }

pub returns-in-Err : goal.returns-in-Err
returns-in-Err c =
    unjudged c.args.rules.now.spelling c.args.before.now.goal c.args.after.now.goal c.args.before.now.text.now c.args.after.now.text.now c.args.first c.args.second c.requires.before c.requires.after
    c.in-Err.error c.in-Err.ensures
