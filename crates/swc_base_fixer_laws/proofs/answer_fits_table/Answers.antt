use Rattle.swc_base_fixer_laws.proofs.answer_fits_table.Goals as goal
use Rattle.swc_base_fixer_laws.proofs.Answer.{answer_fits_table}

-- src/lib.rt
pub returns : goal.returns
returns c = answer_fits_table
