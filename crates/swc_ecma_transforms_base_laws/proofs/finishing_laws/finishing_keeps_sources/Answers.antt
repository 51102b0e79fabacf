use Rattle.swc_ecma_transforms_base_laws.proofs.finishing_laws.finishing_keeps_sources.Goals as goal
use Rattle.swc_ecma_transforms_base_laws.proofs.FinishingKept.{keeps_their_sources}

-- src/finishing_laws.rt
pub returns : goal.returns
returns c = keeps_their_sources c.finishing_renamed_keeps_sources.ensures c.hygiene_is_lawful.ensures c.hygiene_spares_global_values.ensures
