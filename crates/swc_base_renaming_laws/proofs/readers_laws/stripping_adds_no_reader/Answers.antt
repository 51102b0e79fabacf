use Rattle.swc_base_renaming_laws.proofs.readers_laws.stripping_adds_no_reader.Goals as goal
use Rattle.swc_base_renaming_laws.proofs.ReadersStripped.{stripping_adds_no_reader}

-- src/readers_laws.rt
pub returns : goal.returns
returns c = stripping_adds_no_reader
