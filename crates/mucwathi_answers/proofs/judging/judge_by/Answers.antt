use Rattle.mucwathi_answers.proofs.Judged.{verdict}
use Rattle.mucwathi_answers.proofs.Worked.{asked_of_two}
use Rattle.mucwathi_answers.proofs.judging.judge_by.Goals as goal

pub returns : goal.returns
returns c =
    verdict c.args.task.now c.args.before c.args.after c.goal_of_two-first.result c.goal_of_two-second.result
    (asked_of_two c.args.task.now.goal c.args.before c.args.after c.goal_asked-one.result c.goal_asked-other.result c.goal_of_two-first.result c.goal_asked-one.ensures c.goal_asked-other.ensures c.goal_of_two-first.ensures)
    (asked_of_two c.args.task.now.goal c.args.after c.args.before c.goal_asked-other.result c.goal_asked-one.result c.goal_of_two-second.result c.goal_asked-other.ensures c.goal_asked-one.ensures c.goal_of_two-second.ensures)
    c.judge_as.result c.judge_as.ensures
