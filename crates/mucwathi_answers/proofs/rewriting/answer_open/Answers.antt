use Rattle.mucwathi_answers.proofs.Worked.{goal_any}
use Rattle.mucwathi_answers.proofs.rewriting.answer_open.Goals as goal

pub answer_as-requires : goal.answer_as-requires
answer_as-requires c = goal_any _ _ c.requires

pub answer_as_module-requires-clause-asked : goal.answer_as_module-requires-clause-asked
answer_as_module-requires-clause-asked c = goal_any _ _ c.requires
