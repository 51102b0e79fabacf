use Rattle.swc_base_fixer_laws.proofs.fixer_stays_there.Goals as goal
use Rattle.swc_base_fixer_laws.proofs.AgainLaws.{all_fixer_stays_there}

-- src/lib.rt
pub returns : goal.returns
returns c = all_fixer_stays_there
