use Rattle.swc_tree_sites_kept.proofs.exports_laws.written_out_exports.Goals as goal
use Rattle.swc_tree_sites_kept.proofs.Written.{written_out_exports}

-- src/exports_laws.rt
pub returns : goal.returns
returns c = written_out_exports
