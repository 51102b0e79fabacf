use Rattle.swc_ecma_transforms_base_laws.proofs.source_names_laws.hygiene_keeps_sources.Goals as goal
use Rattle.swc_ecma_transforms_base_laws.proofs.SourceNamesKept.{hygiene_keeps_sources}

-- src/source_names_laws.rt
pub returns : goal.returns
returns c = hygiene_keeps_sources c.renamers_keep_sources.ensures c.hygiene_spares_global_values.ensures
