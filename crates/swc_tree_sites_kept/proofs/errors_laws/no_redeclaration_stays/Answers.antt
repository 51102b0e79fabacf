use Rattle.swc_tree_sites_kept.proofs.errors_laws.no_redeclaration_stays.Goals as goal
use Rattle.swc_tree_sites_kept.proofs.Stays.{no_redeclaration_stays}

-- src/errors_laws.rt
pub returns : goal.returns
returns c = no_redeclaration_stays
