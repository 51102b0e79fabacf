use Rattle.swc_base_renaming_laws.proofs.settled_laws.hygiene_tells_met_apart.Goals as goal
use Rattle.swc_base_renaming_laws.proofs.Told.{hygiene_tells_met_apart}

-- src/settled_laws.rt
pub returns : goal.returns
returns c = hygiene_tells_met_apart
