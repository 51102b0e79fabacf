use Rattle.swc_base_normal_form_laws.proofs.Kept.{no_types}
use Rattle.swc_base_normal_form_laws.proofs.normal_form_adds_no_types.Goals as goal

pub returns : goal.returns
returns c = no_types
