use Rattle.std.proofs.lemmas.Result.{MatchResult-weaker}
use Rattle.mucwathi_looks.proofs.write.print_given.Goals as goal

pub returns : goal.returns
returns c =
    MatchResult-weaker c.with_marks.result c.with_marks.ensures (λ out h. record { plain = c.in_ok-plain.plain.items; follows = c.in_ok-plain.ensures.written; marked = h }) (λ f h. h)
