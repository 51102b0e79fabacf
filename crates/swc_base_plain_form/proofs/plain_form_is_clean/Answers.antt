use Rattle.swc_base_plain_form.proofs.Kept.{clean}
use Rattle.swc_base_plain_form.proofs.plain_form_is_clean.Goals as goal

pub returns : goal.returns
returns c = clean
