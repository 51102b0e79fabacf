use Rattle.swc_base_fixer_laws.proofs.targets_stay_bare.Goals as goal
use Rattle.swc_base_fixer_laws.proofs.BareStarts.{targets_stay_bare}

-- src/lib.rt
pub returns : goal.returns
returns c = targets_stay_bare
