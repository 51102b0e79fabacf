use Rattle.mucwathi_answers.proofs.Worked.{goal_or}
use Rattle.mucwathi_answers.proofs.goals.goal_of_two.Goals as goal

pub returns : goal.returns
returns c = rw (c.unwrap_or.ensures, c.or.ensures) (goal_or _ c.args.fallback)
