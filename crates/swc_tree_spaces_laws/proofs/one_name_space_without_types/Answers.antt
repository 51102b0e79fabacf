use Rattle.swc_tree_spaces_laws.proofs.one_name_space_without_types.Goals as goal
use Rattle.swc_tree_spaces_laws.proofs.Agree.{one_name_space_without_types}

-- src/lib.rt
pub returns : goal.returns
returns c = one_name_space_without_types
