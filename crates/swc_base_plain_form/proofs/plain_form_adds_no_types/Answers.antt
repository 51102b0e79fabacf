use Rattle.swc_base_plain_form.proofs.Kept.{no_types}
use Rattle.swc_base_plain_form.proofs.plain_form_adds_no_types.Goals as goal

pub returns : goal.returns
returns c = no_types
