use Rattle.swc_base_fixer_sites.proofs.due_pairs_keep_names.Goals as goal
use Rattle.swc_base_fixer_sites.proofs.Answers.{due_pairs_keep_names}

-- src/lib.rt
pub returns : goal.returns
returns c = due_pairs_keep_names
