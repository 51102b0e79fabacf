use Rattle.swc_tree_renaming.proofs.renaming_keeps_ids.Goals as goal
use Rattle.swc_tree_renaming.proofs.Whole.{renaming_keeps_ids}

-- src/lib.rt
pub returns : goal.returns
returns c = renaming_keeps_ids
