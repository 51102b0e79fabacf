use Rattle.swc_base_renaming_laws.proofs.hygiene_laws.hygiene_keeps_normal_form.Goals as goal
use Rattle.swc_base_renaming_laws.proofs.KeepsNormal.{hygiene_keeps_normal_form}

-- src/hygiene_laws.rt
pub returns : goal.returns
returns c = hygiene_keeps_normal_form
