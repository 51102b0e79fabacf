use Rattle.swc_base_renaming_laws.proofs.settled_laws.pairs_meet.Goals as goal
use Rattle.swc_base_renaming_laws.proofs.Paired.{pairs_meet}

-- src/settled_laws.rt
pub returns : goal.returns
returns c = pairs_meet
