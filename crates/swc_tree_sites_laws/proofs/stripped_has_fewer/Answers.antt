use Rattle.swc_tree_sites_laws.proofs.stripped_has_fewer.Goals as goal
use Rattle.swc_tree_sites_laws.proofs.LeftStripped.{module_fewer}

-- src/lib.rt
pub returns : goal.returns
returns c = module_fewer
