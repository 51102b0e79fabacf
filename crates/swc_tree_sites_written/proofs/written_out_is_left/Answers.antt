use Rattle.swc_tree_sites_written.proofs.written_out_is_left.Goals as goal
use Rattle.swc_tree_sites_written.proofs.Modules.{module_left}

-- src/lib.rt
pub returns : goal.returns
returns c = module_left
