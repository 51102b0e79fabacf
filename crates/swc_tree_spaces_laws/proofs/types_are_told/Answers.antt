use Rattle.swc_tree_spaces_laws.proofs.types_are_told.Goals as goal
use Rattle.swc_tree_spaces_laws.proofs.Told.{types_are_told}

-- src/lib.rt
pub returns : goal.returns
returns c = types_are_told
