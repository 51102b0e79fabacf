use Rattle.mucwathi_commands.proofs.judge.read_before.Goals as goal

pub returns-in-Err : goal.returns-in-Err
returns-in-Err c = c.before_fault.ensures c.args.given.now.text.now c.in-Err.ensures
