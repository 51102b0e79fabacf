use Rattle.swc_tree_sites_laws.proofs.left_keeps_ids.Goals as goal
use Rattle.swc_tree_sites_laws.proofs.LeftIds.{left_keeps_ids}

-- src/lib.rt
pub returns : goal.returns
returns c = left_keeps_ids
