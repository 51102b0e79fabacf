use Rattle.swc_tree_sites_kept.proofs.errors_laws.new_texts_redeclare_none.Goals as goal
use Rattle.swc_tree_sites_kept.proofs.NewTexts.{new_texts_redeclare_none}

-- src/errors_laws.rt
pub returns : goal.returns
returns c = new_texts_redeclare_none
