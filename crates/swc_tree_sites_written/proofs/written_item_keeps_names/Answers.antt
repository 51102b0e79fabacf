use Rattle.swc_tree_sites_written.proofs.written_item_keeps_names.Goals as goal
use Rattle.swc_tree_sites_written.proofs.Steps.{item_keeps}

-- src/lib.rt
pub returns : goal.returns
returns c = item_keeps
