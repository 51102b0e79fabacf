use Rattle.swc_base_fixer_needs.proofs.heads_are_needed.Goals as goal
use Rattle.swc_base_fixer_needs.proofs.HeadNodes.{heads_are_needed}

-- src/lib.rt
pub returns : goal.returns
returns c = heads_are_needed
