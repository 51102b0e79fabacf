use Rattle.swc_base_rename_analysis.proofs.cost_is_one.Goals as goal
use Rattle.swc_base_rename_analysis.proofs.Cost.{cost_is_one}

-- src/lib.rt
pub returns : goal.returns
returns c = cost_is_one
