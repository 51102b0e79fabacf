use Rattle.swc_base_renaming_laws.proofs.source_laws.sameness_needs_no_contexts.Goals as goal
use Rattle.swc_base_renaming_laws.proofs.Same.{sameness_needs_no_contexts}

-- src/source_laws.rt
pub returns : goal.returns
returns c = sameness_needs_no_contexts
