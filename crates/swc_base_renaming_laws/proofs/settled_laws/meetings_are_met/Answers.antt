use Rattle.swc_base_renaming_laws.proofs.settled_laws.meetings_are_met.Goals as goal
use Rattle.swc_base_renaming_laws.proofs.Complete.{meetings_are_met}

-- src/settled_laws.rt
pub returns : goal.returns
returns c = meetings_are_met
