use Rattle.std.proofs.Common.{◌∙◌}
use Rattle.mucwathi_answers.proofs.Endings.{named}
use Rattle.mucwathi_answers.proofs.goals.goal_named.Goals as goal

pub returns : goal.returns
returns c =
    c.goal_by.ensures
    ∙ named c.args.name.now c.as_bytes-bytes.result.now c.ends_with-is_module.result c.ends_with-is_script.result c.as_bytes-bytes.ensures.value c.ends_with-is_module.ensures.value c.ends_with-is_script.ensures.value
