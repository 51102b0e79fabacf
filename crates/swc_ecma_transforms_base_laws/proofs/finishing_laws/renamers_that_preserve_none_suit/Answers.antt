use Rattle.swc_ecma_transforms_base_laws.proofs.finishing_laws.renamers_that_preserve_none_suit.Goals as goal
use Rattle.swc_ecma_transforms_base_laws.proofs.FinishingKept.{none_suits}

-- src/finishing_laws.rt
pub returns : goal.returns
returns c = none_suits
