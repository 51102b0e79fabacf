use Rattle.swc_base_renaming_laws.proofs.hygiene_laws.hygiene_stays_writable.Goals as goal
use Rattle.swc_base_renaming_laws.proofs.StaysWritable.{hygiene_stays_writable}

-- src/hygiene_laws.rt
pub returns : goal.returns
returns c = hygiene_stays_writable
