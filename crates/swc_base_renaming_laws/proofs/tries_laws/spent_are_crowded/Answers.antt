use Rattle.swc_base_renaming_laws.proofs.tries_laws.spent_are_crowded.Goals as goal
use Rattle.swc_base_renaming_laws.proofs.Few.{spent_are_crowded}

-- src/tries_laws.rt
pub returns : goal.returns
returns c = spent_are_crowded
