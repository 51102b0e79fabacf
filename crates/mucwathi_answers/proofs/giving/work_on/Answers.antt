use Rattle.std.proofs.Common.{sym, ◌∙◌}
use Rattle.mucwathi_answers.proofs.Given.{answered_as}
use Rattle.mucwathi_answers.proofs.Worked.{goal_so}
use Rattle.mucwathi_answers.proofs.giving.work_on.Goals as goal

pub returns-in-Some : goal.returns-in-Some
returns-in-Some c = answered_as c.args.task.now c.args.of c.in-Some.goal c.work_as.result (goal_so _ c.in-Some.goal (sym c.goal_asked.ensures ∙ c.in-Some.is)) c.work_as.ensures

pub work_open-requires : goal.work_open-requires
work_open-requires c = sym c.goal_asked.ensures ∙ c.in-None.is
