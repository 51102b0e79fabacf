use Rattle.mucwathi_given.specs.Given.{HasPairs, IsApart}
use Rattle.std.proofs.Common.{inl}
use Rattle.std.proofs.lemmas.Result.{err_from_is_err_and}
use Rattle.mucwathi_given.specs.Refusals.{IsNotApart, IsUnpaired}
use Rattle.mucwathi_given.proofs.Refused.{second_refused}
use Rattle.mucwathi_given.proofs.Making.{then_around, then_made}
use Rattle.mucwathi_given.proofs.make.set_apart_and_pair.Goals as goal

pub returns-clause-around : goal.returns-clause-around
returns-clause-around c = then_around c.args.given c.in_ok-renamed.renamed c.pair.result c.in_ok-renamed.ensures.around c.pair.ensures.around

pub returns-clause-made : goal.returns-clause-made
returns-clause-made c = then_made IsApart HasPairs c.args.given c.in_ok-renamed.renamed c.pair.result c.in_ok-renamed.ensures.made c.in_ok-renamed.ensures.around c.pair.ensures.made

pub returns-in_err-renamed-clause-refused : goal.returns-in_err-renamed-clause-refused
returns-in_err-renamed-clause-refused c =
    let refused = err_from_is_err_and c.from_residual.result c.from_residual.ensures.1 in
    rw (refused.1, refused.2) (inl c.in_err-renamed.ensures.refused)

pub returns-clause-refused : goal.returns-clause-refused
returns-clause-refused c = second_refused IsNotApart IsApart IsUnpaired c.args.given c.in_ok-renamed.renamed c.pair.result c.in_ok-renamed.ensures.made c.pair.ensures.refused
