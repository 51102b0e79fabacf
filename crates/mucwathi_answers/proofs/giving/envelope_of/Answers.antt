use Rattle.std.proofs.Common.{inr}
use Rattle.std.proofs.lemmas.Result.{MatchResult-weaker}
use Rattle.mucwathi_answers.proofs.giving.envelope_of.Goals as goal

pub envelope-requires : goal.envelope-requires
envelope-requires c = c.in_ok-program.ensures.ready

pub returns : goal.returns
returns c =
    MatchResult-weaker c.envelope.result c.envelope.ensures (λ out h. record { program = c.in_ok-program.program; given = c.in_ok-program.ensures.program; made = h })
    (λ f h. inr (c.in_ok-program.program, c.in_ok-program.ensures.program, h))
