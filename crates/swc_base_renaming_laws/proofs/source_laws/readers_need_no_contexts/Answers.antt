use Rattle.swc_base_renaming_laws.proofs.source_laws.readers_need_no_contexts.Goals as goal
use Rattle.swc_base_renaming_laws.proofs.Readers.{readers_need_no_contexts}

-- src/source_laws.rt
pub returns : goal.returns
returns c = readers_need_no_contexts
