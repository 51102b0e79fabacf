use Rattle.std.proofs.Common.{inr}
use Rattle.mucwathi_commands.proofs.judge.read.Goals as goal

pub returns-in-Ok : goal.returns-in-Ok
returns-in-Ok c = record {
  is_text = (c.in-Ok.ensures.tree, c.in-Ok.ensures.formed, c.in-Ok.ensures.pinned, c.in-Ok.ensures.clean);
  clean = c.in-Ok.ensures.clean;
}

pub returns-in-Err : goal.returns-in-Err
returns-in-Err c = inr c.in-Err.ensures.refusal
