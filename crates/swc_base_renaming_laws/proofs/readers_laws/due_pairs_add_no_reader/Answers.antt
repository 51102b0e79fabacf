use Rattle.swc_base_renaming_laws.proofs.readers_laws.due_pairs_add_no_reader.Goals as goal
use Rattle.swc_base_renaming_laws.proofs.ReadersPairs.{due_pairs_add_no_reader}

-- src/readers_laws.rt
pub returns : goal.returns
returns c = due_pairs_add_no_reader
