use Rattle.swc_base_rename_analysis.proofs.sites_are_in_order.Goals as goal
use Rattle.swc_base_rename_analysis.proofs.Level.{each_in_order}

-- src/lib.rt
pub returns : goal.returns
returns c = each_in_order
