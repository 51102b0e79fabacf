use Rattle.swc_ecma_transforms_base_laws.proofs.finishing_laws.lawful_renamers_keep_forms.Goals as goal
use Rattle.swc_ecma_transforms_base_laws.proofs.Promised.{renamers_keep_forms}

-- src/finishing_laws.rt
pub returns : goal.returns
returns c = renamers_keep_forms c.finishing_renamed_keeps_programs.ensures c.finishing_renamed_keeps_spans.ensures
