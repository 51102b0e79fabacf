use Rattle.swc_tree_sites_laws.proofs.stripped_takes_the_same.Goals as goal
use Rattle.swc_tree_sites_laws.proofs.LeftStripped.{stripped_takes}

-- src/lib.rt
pub returns : goal.returns
returns c = stripped_takes
