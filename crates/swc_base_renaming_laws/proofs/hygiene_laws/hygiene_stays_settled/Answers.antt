use Rattle.swc_base_renaming_laws.proofs.hygiene_laws.hygiene_stays_settled.Goals as goal
use Rattle.swc_base_renaming_laws.proofs.Settled.{hygiene_stays_settled}

-- src/hygiene_laws.rt
pub returns : goal.returns
returns c = hygiene_stays_settled
