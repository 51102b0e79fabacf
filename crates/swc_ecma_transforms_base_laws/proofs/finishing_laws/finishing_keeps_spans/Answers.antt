use Rattle.swc_ecma_transforms_base_laws.proofs.finishing_laws.finishing_keeps_spans.Goals as goal
use Rattle.swc_ecma_transforms_base_laws.proofs.FinishingKept.{keeps_spans}

-- src/finishing_laws.rt
pub returns : goal.returns
returns c = keeps_spans c.finishing_renamed_keeps_spans.ensures c.hygiene_spares_global_values.ensures
