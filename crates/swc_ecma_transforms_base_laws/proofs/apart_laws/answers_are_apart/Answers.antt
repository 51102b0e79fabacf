use Rattle.swc_ecma_transforms_base_laws.proofs.apart_laws.answers_are_apart.Goals as goal
use Rattle.swc_ecma_transforms_base_laws.proofs.Apart.{answers_are_apart}

-- src/apart_laws.rt
pub returns : goal.returns
returns c = answers_are_apart c.hygiene_stays_fitting.ensures c.hygiene_stays_writable.ensures c.hygiene_stays_settled.ensures c.answer_has_no_early_error_of_names.ensures c.answers_are_clean_programs.ensures c.fixing_needs_no_contexts.ensures c.substitution_needs_no_contexts.ensures c.texts_are_as_writable.ensures c.labels_meet_as_the_old.ensures c.labelled_answers_are_apart.ensures
