use Rattle.swc_ecma_transforms_base_laws.proofs.finishing_laws.finishing_renamed_meets_no_target.Goals as goal
use Rattle.swc_ecma_transforms_base_laws.proofs.FinishingKept.{renamed_meets_no_target}

-- src/finishing_laws.rt
pub returns : goal.returns
returns c = renamed_meets_no_target c.renaming_stays_fitting.ensures c.renaming_stays_writable.ensures c.targets_stand_bare.ensures
