use Rattle.swc_base_renaming_laws.proofs.hygiene_laws.hygiene_is_lawful.Goals as goal
use Rattle.swc_base_renaming_laws.proofs.Hygienic.{hygiene_is_lawful}

-- src/hygiene_laws.rt
pub returns : goal.returns
returns c = hygiene_is_lawful
