use Rattle.swc_base_fixer_texts.proofs.fixing_needs_no_contexts.Goals as goal
use Rattle.swc_base_fixer_texts.proofs.Starts.{fixing_needs_no_contexts}

-- src/lib.rt
pub returns : goal.returns
returns c = fixing_needs_no_contexts
