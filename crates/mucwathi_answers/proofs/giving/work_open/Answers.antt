use Rattle.mucwathi_answers.proofs.Worked.{goal_any}
use Rattle.mucwathi_answers.proofs.giving.work_open.Goals as goal

pub returns-in-Ok : goal.returns-in-Ok
returns-in-Ok c = (_, goal_any _ _ c.requires, c.in-Ok.ensures)

pub work_as_module-requires-clause-asked : goal.work_as_module-requires-clause-asked
work_as_module-requires-clause-asked c = goal_any _ _ c.requires

pub work_as_module-requires-clause-told : goal.work_as_module-requires-clause-told
work_as_module-requires-clause-told c = (_, goal_any _ _ c.requires, c.in-Err.ensures)

pub returns-else-may_be_module : goal.returns-else-may_be_module
returns-else-may_be_module c = (_, goal_any _ _ c.requires, c.in-Err.ensures)
