use Rattle.swc_tree_walk_laws.proofs.filtered_sites_stand.Goals as goal
use Rattle.swc_tree_walk_laws.proofs.Filtered.{filtered_sites_stand}

-- src/lib.rt
pub returns : goal.returns
returns c = filtered_sites_stand
