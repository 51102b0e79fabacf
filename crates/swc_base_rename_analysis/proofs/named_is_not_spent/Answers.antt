use Rattle.swc_base_rename_analysis.proofs.named_is_not_spent.Goals as goal
use Rattle.swc_base_rename_analysis.proofs.Spent.{named_is_not_spent}

-- src/lib.rt
pub returns : goal.returns
returns c = named_is_not_spent
