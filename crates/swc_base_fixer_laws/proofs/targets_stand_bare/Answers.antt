use Rattle.swc_base_fixer_laws.proofs.targets_stand_bare.Goals as goal
use Rattle.swc_base_fixer_laws.proofs.Fixed.{targets_stand_bare}

-- src/lib.rt
pub returns : goal.returns
returns c = targets_stand_bare
