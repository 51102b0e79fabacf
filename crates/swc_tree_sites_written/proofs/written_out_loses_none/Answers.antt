use Rattle.swc_tree_sites_written.proofs.written_out_loses_none.Goals as goal
use Rattle.swc_tree_sites_written.proofs.Modules.{module_whole}

-- src/lib.rt
pub returns : goal.returns
returns c t f tame = let w = module_whole t f tame in (w.names, w.sets)
