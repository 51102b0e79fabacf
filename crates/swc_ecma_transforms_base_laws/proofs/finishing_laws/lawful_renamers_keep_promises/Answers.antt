use Rattle.swc_ecma_transforms_base_laws.proofs.finishing_laws.lawful_renamers_keep_promises.Goals as goal
use Rattle.swc_ecma_transforms_base_laws.proofs.Promised.{renamers_keep_promises}

-- src/finishing_laws.rt
pub returns : goal.returns
returns c = renamers_keep_promises c.finishing_renamed_keeps_sources.ensures c.lawful_renamers_keep_forms.ensures c.finishing_renamed_keeps_ids.ensures c.finishing_renamed_keeps_meanings.ensures c.renamed_answer_has_no_early_error_of_names.ensures
