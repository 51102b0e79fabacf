use Rattle.swc_ecma_transforms_base_laws.proofs.settling_laws.chain_changes_nothing.Goals as goal
use Rattle.swc_ecma_transforms_base_laws.proofs.Chained.{chain_changes_nothing}

-- src/settling_laws.rt
pub returns : goal.returns
returns c = chain_changes_nothing c.hygiene_stays_fitting.ensures c.hygiene_stays_writable.ensures c.answers_read_no_names.ensures c.answers_are_clean_programs.ensures c.hygiene_leaves_apart.ensures c.clean_programs_become_well_scoped.ensures c.answer_has_no_early_error_of_names.ensures c.readers_need_no_contexts.ensures c.second_run_changes_nothing.ensures
