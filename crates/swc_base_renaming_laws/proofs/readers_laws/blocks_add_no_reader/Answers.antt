use Rattle.swc_base_renaming_laws.proofs.readers_laws.blocks_add_no_reader.Goals as goal
use Rattle.swc_base_renaming_laws.proofs.Blocks.{blocks_add_no_reader}

-- src/readers_laws.rt
pub returns : goal.returns
returns c = blocks_add_no_reader
