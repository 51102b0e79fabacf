use Rattle.swc_tree_sites_kept.proofs.errors_laws.declared_stays.Goals as goal
use Rattle.swc_tree_sites_kept.proofs.ErrorsLeft.{declared_stays}

-- src/errors_laws.rt
pub returns : goal.returns
returns c = declared_stays
