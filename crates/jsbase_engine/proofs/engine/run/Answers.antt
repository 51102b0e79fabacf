use Rattle.std.proofs.lemmas.Result.{MatchResult-weaker}
use Rattle.jsbase_engine.proofs.engine.run.Goals as goal

pub returns : goal.returns
returns c = MatchResult-weaker c.run.result c.run.ensures
    (λ output. c.promises_are_kept.ensures c.args.command c.args.kind c.args.input.now output.items)
    (c.targets_are_spared.ensures c.args.command c.args.kind c.args.input.now)
