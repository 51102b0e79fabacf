use Rattle.swc_tree_spaces_laws.proofs.resolved_alike_without_types.Goals as goal
use Rattle.swc_tree_spaces_laws.proofs.Agree.{resolved_alike}

-- src/lib.rt
pub returns : goal.returns
returns c = resolved_alike
