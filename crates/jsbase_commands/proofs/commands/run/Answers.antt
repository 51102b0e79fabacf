use Rattle.std.proofs.Common.{◌∙◌, sym}
use Rattle.std.proofs.lemmas.Result.{MatchResult-weaker}
use Rattle.jsbase_commands.proofs.OneOrTwo.{made, refused, told, untold}
use Rattle.jsbase_commands.proofs.commands.run.Goals as goal

pub returns-then-takes_one : goal.returns-then-takes_one
returns-then-takes_one c =
    let one = sym c.takes_one.ensures ∙ c.if-takes_one.true in
    MatchResult-weaker c.run_on_one.result c.run_on_one.ensures (λ output. made c.args.command c.args.kind c.args.input.now output.items one) (refused c.args.command c.args.kind c.args.input.now one)

pub returns : goal.returns
returns c =
    let two = sym c.takes_one.ensures ∙ c.if-takes_one.false in
    MatchResult-weaker c.run_on_two.result c.run_on_two.ensures (λ output. told c.args.command c.args.kind c.args.input.now output.items two) (untold c.args.command c.args.kind c.args.input.now two)
