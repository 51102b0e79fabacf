use Rattle.swc_base_renaming_laws.proofs.contexts_laws.substitution_needs_no_contexts.Goals as goal
use Rattle.swc_base_renaming_laws.proofs.Contexts.{substitution_needs_no_contexts}

-- src/contexts_laws.rt
pub returns : goal.returns
returns c = substitution_needs_no_contexts
