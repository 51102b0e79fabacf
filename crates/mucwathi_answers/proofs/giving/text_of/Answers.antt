use Rattle.std.proofs.Common.{MatchResult, subst, sym}
use Rattle.mucwathi_looks.specs.Answered.{IsRewrittenMarked}
use Rattle.mucwathi_looks.specs.Refused.{IsUnrewrittenMarked}
use Rattle.mucwathi_answers.specs.Given.{IsRemarked, IsUnremarked}
use Rattle.mucwathi_answers.proofs.giving.text_of.Goals as goal

pub returns-in-None : goal.returns-in-None
returns-in-None c =
    subst (λ k. MatchResult c.resolve_marked.result (λ out. IsRemarked k c.args.task.now c.args.goal c.args.text.now out.items) (IsUnremarked k c.args.task.now c.args.goal c.args.text.now)) (sym c.in-None.is) c.resolve_marked.ensures

pub returns-in-Some : goal.returns-in-Some
returns-in-Some c =
    subst (λ k. MatchResult c.rewrite_marked.result (λ out. IsRemarked k c.args.task.now c.args.goal c.args.text.now out.items) (IsUnremarked k c.args.task.now c.args.goal c.args.text.now)) (sym c.in-Some.is)
    (subst (λ order. MatchResult c.rewrite_marked.result (λ out. IsRewrittenMarked order c.args.text.now out.items) (IsUnrewrittenMarked order c.args.text.now)) c.order_for-order.ensures c.rewrite_marked.ensures)
