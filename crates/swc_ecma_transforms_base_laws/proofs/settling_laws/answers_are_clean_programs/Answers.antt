use Rattle.swc_ecma_transforms_base_laws.proofs.settling_laws.answers_are_clean_programs.Goals as goal
use Rattle.swc_ecma_transforms_base_laws.proofs.Clean.{answers_are_clean_programs}

-- src/settling_laws.rt
pub returns : goal.returns
returns c = answers_are_clean_programs (record {
  apart = c.names_are_apart.ensures;
  flat = c.chained_is_flat.ensures;
  texts = c.renaming_gives_normal_form_new_texts.ensures;
  writable = c.renaming_stays_writable.ensures;
  fits = c.renaming_stays_fitting.ensures;
  settled = c.renaming_stays_settled.ensures;
  left = c.plain_scripts_are_left.ensures;
  whole = c.fixed_scripts_lose_no_name.ensures;
}) c.hygiene_is_lawful.ensures c.hygiene_spares_global_values.ensures c.targets_stand_bare.ensures c.fixing_needs_no_contexts.ensures
