use Rattle.swc_base_fixer_laws.proofs.normal_form_stays.Goals as goal
use Rattle.swc_base_fixer_laws.proofs.AgainLaws.{all_normal_form_stays}

-- src/lib.rt
pub returns : goal.returns
returns c = all_normal_form_stays
