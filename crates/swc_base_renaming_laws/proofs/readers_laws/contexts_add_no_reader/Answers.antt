use Rattle.swc_base_renaming_laws.proofs.readers_laws.contexts_add_no_reader.Goals as goal
use Rattle.swc_base_renaming_laws.proofs.ReadersContexts.{contexts_add_no_reader}

-- src/readers_laws.rt
pub returns : goal.returns
returns c = contexts_add_no_reader
