use Rattle.std.proofs.Common.{sym, ◌∙◌}
use Rattle.mucwathi_answers.proofs.Looked.{shown_as}
use Rattle.mucwathi_answers.proofs.Worked.{goal_so}
use Rattle.mucwathi_answers.proofs.looking.work_on.Goals as goal

pub returns-in-Some : goal.returns-in-Some
returns-in-Some c = shown_as c.args.view c.args.goal c.args.of c.in-Some.asked c.work_as.result (goal_so _ c.in-Some.asked (sym c.goal_asked.ensures ∙ c.in-Some.is)) c.work_as.ensures

pub work_open-requires : goal.work_open-requires
work_open-requires c = sym c.goal_asked.ensures ∙ c.in-None.is
