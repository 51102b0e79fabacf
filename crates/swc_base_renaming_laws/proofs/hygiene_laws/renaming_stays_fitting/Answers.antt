use Rattle.swc_base_renaming_laws.proofs.hygiene_laws.renaming_stays_fitting.Goals as goal
use Rattle.swc_base_renaming_laws.proofs.HygieneFitting.{renaming_stays_fitting}

-- src/hygiene_laws.rt
pub returns : goal.returns
returns c = renaming_stays_fitting
