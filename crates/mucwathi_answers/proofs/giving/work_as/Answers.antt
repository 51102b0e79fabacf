use Rattle.std.proofs.Common.{MatchResult, subst, sym}
use Rattle.mucwathi_answers.specs.Given.{IsAnsweredAs, IsUnansweredAs}
use Rattle.mucwathi_answers.proofs.giving.work_as.Goals as goal

pub returns-then-task : goal.returns-then-task
returns-then-task c =
    subst (λ b. MatchResult c.envelope_of.result (λ out. IsAnsweredAs b c.args.task.now c.args.goal c.args.text.now out.items) (IsUnansweredAs b c.args.task.now c.args.goal c.args.text.now)) (sym c.if-task.true) c.envelope_of.ensures

pub returns-else-task : goal.returns-else-task
returns-else-task c =
    subst (λ b. MatchResult c.text_of.result (λ out. IsAnsweredAs b c.args.task.now c.args.goal c.args.text.now out.items) (IsUnansweredAs b c.args.task.now c.args.goal c.args.text.now)) (sym c.if-task.false) c.text_of.ensures
