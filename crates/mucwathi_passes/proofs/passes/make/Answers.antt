use Rattle.std.proofs.Common.{sym, ◌∙◌}
use Rattle.std.proofs.lemmas.Result.{MatchResult-weaker}
use Rattle.mucwathi_passes.proofs.Refusals.{refused_for_cause}
use Rattle.mucwathi_passes.proofs.passes.make.Goals as goal

pub returns-then-has_types : goal.returns-then-has_types
returns-then-has_types c = sym c.has_types.ensures ∙ c.if-has_types.true

pub returns : goal.returns
returns c =
    MatchResult-weaker c.make_of_values.result c.make_of_values.ensures (λ answer h. h)
    (refused_for_cause c.args.command c.args.settings.now c.args.program (sym c.has_types.ensures ∙ c.if-has_types.false))
