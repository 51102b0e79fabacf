use Rattle.swc_ecma_transforms_base_laws.proofs.finishing_laws.finishing_keeps_programs.Goals as goal
use Rattle.swc_ecma_transforms_base_laws.proofs.FinishingKept.{keeps_programs}

-- src/finishing_laws.rt
pub returns : goal.returns
returns c = keeps_programs c.finishing_renamed_keeps_programs.ensures c.hygiene_is_lawful.ensures c.hygiene_spares_global_values.ensures
