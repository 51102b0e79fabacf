use Rattle.mucwathi_given.specs.Given.{HasPairs, IsShort, IsResolved, Then}
use Rattle.std.proofs.Common.{inl}
use Rattle.std.proofs.lemmas.Result.{err_from_is_err_and}
use Rattle.mucwathi_given.specs.Refusals.{InTurn, IsNotShort, IsUnpaired, IsUnresolved}
use Rattle.mucwathi_given.proofs.Refused.{second_refused}
use Rattle.mucwathi_given.proofs.Making.{then_around, then_made}
use Rattle.mucwathi_given.proofs.make.mangle.Goals as goal

pub returns-clause-around : goal.returns-clause-around
returns-clause-around c = then_around c.args.given c.in_ok-resolved.resolved c.shorten_and_pair.result c.in_ok-resolved.ensures.around c.shorten_and_pair.ensures.around

pub returns-clause-made : goal.returns-clause-made
returns-clause-made c = λ ready.
    then_made IsResolved (Then IsShort HasPairs) c.args.given c.in_ok-resolved.resolved c.shorten_and_pair.result (c.in_ok-resolved.ensures.made ready) c.in_ok-resolved.ensures.around c.shorten_and_pair.ensures.made

pub returns-in_err-resolved-clause-refused : goal.returns-in_err-resolved-clause-refused
returns-in_err-resolved-clause-refused c = λ ready.
    let refused = err_from_is_err_and c.from_residual.result c.from_residual.ensures.1 in
    rw (refused.1, refused.2) (inl c.in_err-resolved.ensures.refused)

pub returns-clause-refused : goal.returns-clause-refused
returns-clause-refused c = λ ready.
    second_refused IsUnresolved IsResolved (InTurn IsNotShort IsShort IsUnpaired) c.args.given c.in_ok-resolved.resolved c.shorten_and_pair.result (c.in_ok-resolved.ensures.made ready) c.shorten_and_pair.ensures.refused
