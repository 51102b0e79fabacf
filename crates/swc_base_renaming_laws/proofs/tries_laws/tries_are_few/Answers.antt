use Rattle.swc_base_renaming_laws.proofs.tries_laws.tries_are_few.Goals as goal
use Rattle.swc_base_renaming_laws.proofs.Few.{tries_are_few}

-- src/tries_laws.rt
pub returns : goal.returns
returns c = tries_are_few
