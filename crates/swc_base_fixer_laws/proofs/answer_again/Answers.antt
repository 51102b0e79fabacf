use Rattle.swc_base_fixer_laws.proofs.answer_again.Goals as goal
use Rattle.swc_base_fixer_laws.proofs.AgainLaws.{all_answer_again}

-- src/lib.rt
pub returns : goal.returns
returns c = all_answer_again
