use Rattle.swc_base_renaming_laws.proofs.errors_laws.answer_has_no_early_error_of_names.Goals as goal
use Rattle.swc_base_renaming_laws.proofs.Errors.{answer_has_no_early_error_of_names}

-- src/errors_laws.rt
pub returns : goal.returns
returns c = answer_has_no_early_error_of_names c.renamed_answer_has_no_early_error_of_names.ensures c.hygiene_is_lawful.ensures
