use Rattle.swc_base_fixer_needs.proofs.due_pairs_are_needed.Goals as goal
use Rattle.swc_base_fixer_needs.proofs.StartTrees.{due_pairs_are_needed}

-- src/lib.rt
pub returns : goal.returns
returns c = due_pairs_are_needed
