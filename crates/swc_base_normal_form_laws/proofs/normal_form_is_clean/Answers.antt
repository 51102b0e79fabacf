use Rattle.swc_base_normal_form_laws.proofs.Kept.{clean}
use Rattle.swc_base_normal_form_laws.proofs.normal_form_is_clean.Goals as goal

pub returns : goal.returns
returns c = clean
