use Rattle.std.proofs.Common.{◌∙◌, ap}
use Rattle.swc_base_plain_form.specs.PlainForm.{plain_form}
use Rattle.jsbase_commands.proofs.judge.plain_copy.Goals as goal

pub returns : goal.returns
returns c = c.in_ok-plain.ensures ∙ ap plain_form c.in_ok-copy.ensures.cases
