use Rattle.std.proofs.Common.{inr, sym, ◌∙◌}
use Rattle.std.proofs.lemmas.Result.{MatchResult-weaker}
use Rattle.jsbase_commands.proofs.Refused.{refused_typeless}
use Rattle.jsbase_commands.proofs.commands.answer.Goals as goal

pub returns-then-refuses_types : goal.returns-then-refuses_types
returns-then-refuses_types c = inr (sym c.refuses_types.ensures ∙ c.if-refuses_types.true)

pub returns : goal.returns
returns c = MatchResult-weaker c.make.result c.make.ensures (λ text h. h) (refused_typeless c.args.command c.args.envelope (sym c.refuses_types.ensures ∙ c.if-refuses_types.false))
