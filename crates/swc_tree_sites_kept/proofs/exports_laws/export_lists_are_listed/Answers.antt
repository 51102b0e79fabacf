use Rattle.swc_tree_sites_kept.proofs.exports_laws.export_lists_are_listed.Goals as goal
use Rattle.swc_tree_sites_kept.proofs.Paths.{export_lists_are_listed}

-- src/exports_laws.rt
pub returns : goal.returns
returns c = export_lists_are_listed
