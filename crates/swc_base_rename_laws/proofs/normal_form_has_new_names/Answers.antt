use Rattle.swc_base_rename_laws.proofs.normal_form_has_new_names.Goals as goal
use Rattle.swc_base_rename_laws.proofs.NormalFormNames.{normal_form_has_new_names}

-- src/lib.rt
pub returns : goal.returns
returns c = normal_form_has_new_names
