use Rattle.swc_base_renaming_laws.proofs.readers_laws.new_names_add_no_reader.Goals as goal
use Rattle.swc_base_renaming_laws.proofs.NewNames.{new_names_add_no_reader}

-- src/readers_laws.rt
pub returns : goal.returns
returns c = new_names_add_no_reader
