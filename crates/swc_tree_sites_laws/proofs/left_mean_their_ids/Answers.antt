use Rattle.swc_tree_sites_laws.proofs.left_mean_their_ids.Goals as goal
use Rattle.swc_tree_sites_laws.proofs.LeftMeanings.{left_mean_their_ids}

-- src/lib.rt
pub returns : goal.returns
returns c = left_mean_their_ids
