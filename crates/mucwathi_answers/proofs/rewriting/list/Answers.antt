use Rattle.std.proofs.Common.{List, ap, ◌∙◌}
use Rattle.std.proofs.lemmas.Result.{MatchResult-weaker}
use Rattle.mucwathi_lists.specs.declared.changes.Change.{Change}
use Rattle.mucwathi_lists.specs.Listed.{changes_listed}
use Rattle.mucwathi_answers.proofs.Worked.{memory_told}
use Rattle.mucwathi_answers.proofs.rewriting.list.Goals as goal

pub returns-in-Ok : goal.returns-in-Ok
returns-in-Ok c =
    MatchResult-weaker c.list_of.result c.list_of.ensures
    (λ a h. (h.0, record { changes = c.in-Ok.changes.items; told = c.in-Ok.ensures; listed = h.1 ∙ ap (λ (cs : List Change). changes_listed c.args.prefix.now c.args.text.now cs) c.as_slice.ensures.value }))
    (memory_told c.args.order.now c.args.text.now)
