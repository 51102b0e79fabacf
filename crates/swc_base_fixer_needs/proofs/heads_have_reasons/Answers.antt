use Rattle.swc_base_fixer_needs.proofs.heads_have_reasons.Goals as goal
use Rattle.swc_base_fixer_needs.proofs.HeadNodes.{heads_have_reasons}

-- src/lib.rt
pub returns : goal.returns
returns c = heads_have_reasons
