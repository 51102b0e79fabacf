use Rattle.std.proofs.Common.{List, ap, ◌∙◌}
use Rattle.std.proofs.lemmas.Result.{MatchResult-weaker}
use Rattle.mucwathi_lists.specs.declared.lists.FreeName.{FreeName}
use Rattle.mucwathi_lists.specs.Listed.{names_listed}
use Rattle.mucwathi_answers.proofs.Looked.{memory_unlooked}
use Rattle.mucwathi_answers.proofs.looking.names.Goals as goal

pub returns-in-Ok : goal.returns-in-Ok
returns-in-Ok c =
    MatchResult-weaker c.list.result c.list.ensures
    (λ out is. (c.in-Ok.names.items, c.in-Ok.ensures, is ∙ ap (λ (ns : List FreeName). names_listed c.args.of.text.now ns) c.as_slice.ensures.value))
    (memory_unlooked c.args.goal c.args.of.text.now)
