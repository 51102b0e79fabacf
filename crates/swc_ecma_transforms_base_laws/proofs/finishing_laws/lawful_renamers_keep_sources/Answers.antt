use Rattle.swc_ecma_transforms_base_laws.proofs.finishing_laws.lawful_renamers_keep_sources.Goals as goal
use Rattle.swc_ecma_transforms_base_laws.proofs.Promised.{renamers_keep_sources}

-- src/finishing_laws.rt
pub returns : goal.returns
returns c = renamers_keep_sources c.resolved_sources_are_ready.ensures c.lawful_renamers_keep_promises.ensures c.lawful_renamers_keep_forms_of_sources.ensures
