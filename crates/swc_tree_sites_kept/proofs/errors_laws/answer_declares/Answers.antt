use Rattle.swc_tree_sites_kept.proofs.errors_laws.answer_declares.Goals as goal
use Rattle.swc_tree_sites_kept.proofs.ErrorsLeft.{answer_declares}

-- src/errors_laws.rt
pub returns : goal.returns
returns c = answer_declares
