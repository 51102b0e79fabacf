use Rattle.swc_base_renaming_laws.proofs.settled_laws.labels_carry_apart.Goals as goal
use Rattle.swc_base_renaming_laws.proofs.SettledCarried.{labels_carry_apart}

-- src/settled_laws.rt
pub returns : goal.returns
returns c = labels_carry_apart
