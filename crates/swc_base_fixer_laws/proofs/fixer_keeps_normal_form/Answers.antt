use Rattle.swc_base_fixer_laws.proofs.fixer_keeps_normal_form.Goals as goal
use Rattle.swc_base_fixer_laws.proofs.AgainLaws.{all_fixer_keeps_normal_form}

-- src/lib.rt
pub returns : goal.returns
returns c = all_fixer_keeps_normal_form
