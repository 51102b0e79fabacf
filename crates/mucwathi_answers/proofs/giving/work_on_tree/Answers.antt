use Rattle.std.proofs.Common.{MatchResult, subst, sym}
use Rattle.mucwathi_answers.specs.Given.{IsUnwrittenAs, IsWrittenAs}
use Rattle.mucwathi_answers.proofs.giving.work_on_tree.Goals as goal

pub returns-then-task : goal.returns-then-task
returns-then-task c = subst (λ b. MatchResult c.envelope.result (λ out. IsWrittenAs b c.args.task.now c.args.program out.items) (IsUnwrittenAs b c.args.task.now c.args.program)) (sym c.if-task.true) c.envelope.ensures

pub returns-else-task : goal.returns-else-task
returns-else-task c = subst (λ b. MatchResult c.text_of_tree.result (λ out. IsWrittenAs b c.args.task.now c.args.program out.items) (IsUnwrittenAs b c.args.task.now c.args.program)) (sym c.if-task.false) c.text_of_tree.ensures
