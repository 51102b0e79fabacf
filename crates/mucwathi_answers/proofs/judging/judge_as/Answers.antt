use Rattle.std.proofs.Common.{MatchResult, subst}
use Rattle.mucwathi_commands.specs.Judged.{IsJudgeFault, IsJudged}
use Rattle.mucwathi_answers.proofs.judging.judge_as.Goals as goal

pub returns : goal.returns
returns c =
    subst (λ rules. MatchResult c.judge_texts.result (IsJudged rules c.args.first c.args.before.text.now c.args.second c.args.after.text.now) (IsJudgeFault rules.spelling c.args.first c.args.before.text.now c.args.second c.args.after.text.now))
    c.rules_of.ensures c.judge_texts.ensures
