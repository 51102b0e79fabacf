use Rattle.swc_base_rename_laws.proofs.normal_form_stays.Goals as goal
use Rattle.swc_base_rename_laws.proofs.NormalFormStays.{normal_form_stays}

-- src/lib.rt
pub returns : goal.returns
returns c = normal_form_stays
