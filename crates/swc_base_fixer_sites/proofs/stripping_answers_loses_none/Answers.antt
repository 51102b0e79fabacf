use Rattle.swc_base_fixer_sites.proofs.stripping_answers_loses_none.Goals as goal
use Rattle.swc_base_fixer_sites.proofs.Answers.{stripping_answers_loses_none}

-- src/lib.rt
pub returns : goal.returns
returns c = stripping_answers_loses_none
