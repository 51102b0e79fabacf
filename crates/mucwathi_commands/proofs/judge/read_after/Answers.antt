use Rattle.mucwathi_commands.proofs.judge.read_after.Goals as goal

pub returns-in-Err : goal.returns-in-Err
returns-in-Err c = c.after_fault.ensures c.args.given.now.text.now c.in-Err.ensures
