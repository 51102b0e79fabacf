use Rattle.swc_base_rename_laws.proofs.writable_stays.Goals as goal
use Rattle.swc_base_rename_laws.proofs.WritableStays.{writable_stays}

-- src/lib.rt
pub returns : goal.returns
returns c = writable_stays
