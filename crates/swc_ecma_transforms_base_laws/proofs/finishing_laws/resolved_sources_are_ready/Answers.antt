use Rattle.swc_ecma_transforms_base_laws.proofs.finishing_laws.resolved_sources_are_ready.Goals as goal
use Rattle.swc_ecma_transforms_base_laws.proofs.FinishingSources.{sources_ready}

-- src/finishing_laws.rt
pub returns : goal.returns
returns c = sources_ready c.resolved_sources_have_their_form.ensures c.clean_programs_become_well_scoped.ensures c.resolved_names_mean_their_ids.ensures c.resolved_scripts_are_plain.ensures
