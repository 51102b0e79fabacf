use Rattle.swc_base_renaming_laws.proofs.errors_laws.renamed_answer_has_no_early_error_of_names.Goals as goal
use Rattle.swc_base_renaming_laws.proofs.Errors.{renamed_answer_has_no_early_error_of_names}

-- src/errors_laws.rt
pub returns : goal.returns
returns c = renamed_answer_has_no_early_error_of_names (record {
  apart = c.names_are_apart.ensures;
  flat = c.chained_is_flat.ensures;
  texts = c.renaming_gives_normal_form_new_texts.ensures;
  writable = c.renaming_stays_writable.ensures;
  fits = c.renaming_stays_fitting.ensures;
  settled = c.renaming_stays_settled.ensures;
  left = c.plain_scripts_are_left.ensures;
  whole = c.fixed_scripts_lose_no_name.ensures;
})
