use Rattle.swc_ecma_transforms_base_laws.proofs.finishing_laws.finishing_meets_no_target.Goals as goal
use Rattle.swc_ecma_transforms_base_laws.proofs.FinishingKept.{meets_no_target}

-- src/finishing_laws.rt
pub returns : goal.returns
returns c = meets_no_target c.finishing_renamed_meets_no_target.ensures c.hygiene_is_lawful.ensures
