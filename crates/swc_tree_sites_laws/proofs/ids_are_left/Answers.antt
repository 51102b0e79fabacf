use Rattle.swc_tree_sites_laws.proofs.ids_are_left.Goals as goal
use Rattle.swc_tree_sites_laws.proofs.LeftByIds.{ids_are_left}

-- src/lib.rt
pub returns : goal.returns
returns c = ids_are_left
