use Rattle.swc_ecma_transforms_base_laws.proofs.finishing_laws.chaining_keeps_sources.Goals as goal
use Rattle.swc_ecma_transforms_base_laws.proofs.Promised.{keeps_sources}

-- src/finishing_laws.rt
pub returns : goal.returns
returns c = keeps_sources c.lawful_renamers_keep_sources.ensures c.hygiene_is_lawful.ensures c.hygiene_spares_global_values.ensures
