use Rattle.swc_ecma_transforms_base_laws.proofs.finishing_laws.resolved_sources_have_their_form.Goals as goal
use Rattle.swc_ecma_transforms_base_laws.proofs.FinishingSources.{sources_have_form}

-- src/finishing_laws.rt
pub returns : goal.returns
returns c = sources_have_form c.texts_are_as_writable.ensures c.sameness_needs_no_contexts.ensures c.readers_need_no_contexts.ensures
