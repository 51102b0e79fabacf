use Rattle.swc_base_fixer_laws.proofs.due_pairs_are_pairs.Goals as goal
use Rattle.swc_base_fixer_laws.proofs.Answer.{due_set}

-- src/lib.rt
pub returns : goal.returns
returns c = due_set
