use Rattle.swc_tree_sites.proofs.no_capture_stays.Goals as goal
use Rattle.swc_tree_sites.proofs.Laws.{no_capture_stays}

-- src/lib.rt
pub returns : goal.returns
returns c = no_capture_stays
