use Rattle.swc_tree_sites_kept.proofs.exports_laws.stripped_exports_the_same.Goals as goal
use Rattle.swc_tree_sites_kept.proofs.Written.{stripped_exports_the_same}

-- src/exports_laws.rt
pub returns : goal.returns
returns c = stripped_exports_the_same
