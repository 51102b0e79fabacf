use Rattle.swc_base_renaming_laws.proofs.hygiene_laws.renaming_keeps_normal_form.Goals as goal
use Rattle.swc_base_renaming_laws.proofs.KeepsNormal.{renaming_keeps_normal_form}

-- src/hygiene_laws.rt
pub returns : goal.returns
returns c = renaming_keeps_normal_form
