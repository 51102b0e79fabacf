use Rattle.swc_base_fixer_needs.proofs.starts_have_reasons.Goals as goal
use Rattle.swc_base_fixer_needs.proofs.StartTrees.{starts_have_reasons}

-- src/lib.rt
pub returns : goal.returns
returns c = starts_have_reasons
