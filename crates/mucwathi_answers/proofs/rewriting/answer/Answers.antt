use Rattle.std.proofs.Common.{sym, ◌∙◌}
use Rattle.mucwathi_answers.proofs.Worked.{goal_so}
use Rattle.mucwathi_answers.proofs.rewriting.answer.Goals as goal

pub answer_as-requires : goal.answer_as-requires
answer_as-requires c = goal_so _ c.in-Some.goal (sym c.goal_asked.ensures ∙ c.in-Some.is)

pub answer_open-requires : goal.answer_open-requires
answer_open-requires c = sym c.goal_asked.ensures ∙ c.in-None.is
