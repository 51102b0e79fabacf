use Rattle.swc_base_fixer_laws.proofs.due_pairs_keep_writable.Goals as goal
use Rattle.swc_base_fixer_laws.proofs.Answer.{keep_writable}

-- src/lib.rt
pub returns : goal.returns
returns c = keep_writable
