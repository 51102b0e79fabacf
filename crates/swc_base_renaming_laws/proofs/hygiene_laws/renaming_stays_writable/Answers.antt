use Rattle.swc_base_renaming_laws.proofs.hygiene_laws.renaming_stays_writable.Goals as goal
use Rattle.swc_base_renaming_laws.proofs.StaysWritable.{renaming_stays_writable}

-- src/hygiene_laws.rt
pub returns : goal.returns
returns c = renaming_stays_writable
