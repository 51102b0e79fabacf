use Rattle.swc_base_renaming_laws.proofs.errors_laws.answer_declares_by_the_rules.Goals as goal
use Rattle.swc_base_renaming_laws.proofs.Errors.{answer_declares_by_the_rules}

-- src/errors_laws.rt
pub returns : goal.returns
returns c = answer_declares_by_the_rules c.renamed_answer_declares_by_the_rules.ensures c.hygiene_is_lawful.ensures
