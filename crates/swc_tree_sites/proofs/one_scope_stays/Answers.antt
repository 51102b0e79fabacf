use Rattle.swc_tree_sites.proofs.one_scope_stays.Goals as goal
use Rattle.swc_tree_sites.proofs.Laws.{one_scope_stays}

-- src/lib.rt
pub returns : goal.returns
returns c = one_scope_stays
