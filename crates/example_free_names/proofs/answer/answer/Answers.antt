use Rattle.std.proofs.Common.{inr}
use Rattle.example_free_names.proofs.answer.answer.Goals as goal

pub returns-in-Err : goal.returns-in-Err
returns-in-Err c = inr (c.in-Ok.envelope, c.in-Ok.ensures.envelope, c.in-Err.ensures)
