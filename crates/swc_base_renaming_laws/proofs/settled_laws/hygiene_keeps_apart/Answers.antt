use Rattle.swc_base_renaming_laws.proofs.settled_laws.hygiene_keeps_apart.Goals as goal
use Rattle.swc_base_renaming_laws.proofs.Keeps.{hygiene_keeps_apart}

-- src/settled_laws.rt
pub returns : goal.returns
returns c = hygiene_keeps_apart
