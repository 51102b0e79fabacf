use Rattle.swc_ecma_transforms_base_laws.proofs.finishing_laws.lawful_renamers_keep_forms_of_sources.Goals as goal
use Rattle.swc_ecma_transforms_base_laws.proofs.Promised.{renamers_keep_forms_of_sources}

-- src/finishing_laws.rt
pub returns : goal.returns
returns c = renamers_keep_forms_of_sources c.resolved_sources_have_their_form.ensures c.lawful_renamers_keep_forms.ensures c.finishing_renamed_meets_no_target.ensures
