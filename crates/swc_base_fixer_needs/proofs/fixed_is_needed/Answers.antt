use Rattle.swc_base_fixer_needs.proofs.fixed_is_needed.Goals as goal
use Rattle.swc_base_fixer_needs.proofs.StartTrees.{fixed_is_needed}

-- src/lib.rt
pub returns : goal.returns
returns c = fixed_is_needed
