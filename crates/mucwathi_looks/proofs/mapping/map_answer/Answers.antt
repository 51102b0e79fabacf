use Rattle.std.proofs.lemmas.Result.{MatchResult-weaker}
use Rattle.mucwathi_looks.proofs.mapping.map_answer.Goals as goal

pub returns-in-Ok : goal.returns-in-Ok
returns-in-Ok c =
    MatchResult-weaker c.map_nodes.result c.map_nodes.ensures (λ map h. record { written = c.in-Ok.written; again = (c.in-Ok.ensures.tree, c.in-Ok.ensures.formed, c.in-Ok.ensures.pinned, c.in-Ok.ensures.clean); stands = c.in-Ok.ensures.spans; tells = h }) (λ f h. h)
