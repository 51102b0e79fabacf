use Rattle.swc_ecma_transforms_base_laws.proofs.finishing_laws.finishing_keeps_forms.Goals as goal
use Rattle.swc_ecma_transforms_base_laws.proofs.Promised.{keeps_forms}

-- src/finishing_laws.rt
pub returns : goal.returns
returns c = keeps_forms c.lawful_renamers_keep_forms.ensures c.hygiene_is_lawful.ensures c.hygiene_spares_global_values.ensures
