use Rattle.swc_base_rename_laws.proofs.empty_map_changes_nothing.Goals as goal
use Rattle.swc_base_rename_laws.proofs.Unchanged.{empty_map_changes_nothing}

-- src/lib.rt
pub returns : goal.returns
returns c = empty_map_changes_nothing
