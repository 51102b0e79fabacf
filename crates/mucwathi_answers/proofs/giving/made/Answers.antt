use Rattle.std.proofs.Common.{MatchResult, inr, subst, sym}
use Rattle.std.proofs.lemmas.Result.{MatchResult-weaker}
use Rattle.mucwathi_given.specs.Given.{IsMade, IsReady}
use Rattle.mucwathi_given.specs.Refusals.{IsUnmade}
use Rattle.mucwathi_answers.proofs.Given.{both_ends, settings_ready}
use Rattle.mucwathi_answers.proofs.giving.made.Goals as goal

pub returns : goal.returns
returns c =
    let command = c.args.task.now.command in
    let given = c.with_settings-given.result in
    let ready = subst IsReady (sym c.with_settings-given.ensures) (settings_ready c.args.task.now c.args.program c.requires) in
    let ends = both_ends (IsMade command given) (IsUnmade command given) c.make_given.result (c.make_given.ensures.made ready) (c.make_given.ensures.refused ready) in
    MatchResult-weaker c.make_given.result (subst (λ e. MatchResult c.make_given.result (IsMade command e) (IsUnmade command e)) c.with_settings-given.ensures ends) (λ made h. h) (λ e h. inr h)
