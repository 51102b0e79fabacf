use Rattle.swc_base_fixer_needs.proofs.reasons_are_needs.Goals as goal
use Rattle.swc_base_fixer_needs.proofs.Reasoned.{reasons_are_needs}

-- src/lib.rt
pub returns : goal.returns
returns c = reasons_are_needs
