use Rattle.std.proofs.lemmas.Result.{MatchResult-weaker}
use Rattle.mucwathi_answers.proofs.Worked.{memory_told, uncovered_told}
use Rattle.mucwathi_answers.proofs.rewriting.explain.Goals as goal

pub returns-in-Ok : goal.returns-in-Ok
returns-in-Ok c =
    MatchResult-weaker c.explain_gap.result c.explain_gap.ensures (λ a h. (h.0, record { gap = c.in-Ok.gap; covers = c.in-Ok.ensures; told = h.1 })) (memory_told c.args.order.now c.args.of.text.now)

pub returns-in-Err : goal.returns-in-Err
returns-in-Err c = uncovered_told c.args.order.now c.args.of.text.now c.in-Err.fault c.in-Err.ensures
