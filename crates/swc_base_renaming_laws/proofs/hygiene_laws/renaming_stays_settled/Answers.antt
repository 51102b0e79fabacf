use Rattle.swc_base_renaming_laws.proofs.hygiene_laws.renaming_stays_settled.Goals as goal
use Rattle.swc_base_renaming_laws.proofs.Settled.{renaming_stays_settled}

-- src/hygiene_laws.rt
pub returns : goal.returns
returns c = renaming_stays_settled
