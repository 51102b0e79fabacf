use Rattle.swc_ecma_transforms_base_laws.proofs.finishing_laws.finishing_keeps_meanings.Goals as goal
use Rattle.swc_ecma_transforms_base_laws.proofs.FinishingKept.{keeps_meanings}

-- src/finishing_laws.rt
pub returns : goal.returns
returns c = keeps_meanings c.finishing_renamed_keeps_meanings.ensures c.hygiene_is_lawful.ensures
