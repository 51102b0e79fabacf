use Rattle.swc_tree_sites_kept.proofs.errors_laws.readings_keep_scopes.Goals as goal
use Rattle.swc_tree_sites_kept.proofs.Named.{readings_keep_scopes}

-- src/errors_laws.rt
pub returns : goal.returns
returns c = readings_keep_scopes
