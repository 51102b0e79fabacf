use Rattle.swc_tree_sites_kept.proofs.errors_laws.answer_redeclares_none.Goals as goal
use Rattle.swc_tree_sites_kept.proofs.ErrorsLeft.{answer_redeclares_none}

-- src/errors_laws.rt
pub returns : goal.returns
returns c = answer_redeclares_none
