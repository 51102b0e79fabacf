use Rattle.std.proofs.lemmas.Result.{MatchResult-weaker}
use Rattle.jsbase_commands.specs.Run.{Makes, IsRunFault}
use Rattle.jsbase_engine.specs.Run.{Answers, IsFaultOf}
use Rattle.jsbase_engine.proofs.Streams.{served, faulted}
use Rattle.jsbase_engine.proofs.served.serve.Goals as goal

pub returns : goal.returns
returns g c =
    let left = g.R.Read.remaining c.args.input.now in
    let rest = g.R.Read.remaining c.serve.new.input in
    let k = g.W.Write.contents in
    let kept = c.promises_are_kept.ensures c.args.command c.args.kind in
    MatchResult-weaker c.serve.result c.serve.ensures
    (λ _. served (Makes c.args.command c.args.kind) (Answers c.args.command c.args.kind) kept left rest (k c.args.output.now) (k c.serve.new.output))
    (faulted (Makes c.args.command c.args.kind) (Answers c.args.command c.args.kind) kept left rest (IsRunFault c.args.command c.args.kind) (IsFaultOf c.args.command c.args.kind)
    (c.targets_are_spared.ensures c.args.command c.args.kind) k c.args.output.now c.serve.new.output)
