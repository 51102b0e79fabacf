use Rattle.swc_base_fixer_needs.proofs.levels_are_needed.Goals as goal
use Rattle.swc_base_fixer_needs.proofs.Seen.{levels_are_needed}

-- src/lib.rt
pub returns : goal.returns
returns c = levels_are_needed
