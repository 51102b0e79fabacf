use Rattle.swc_base_renaming_laws.proofs.settled_laws.programs_take_all.Goals as goal
use Rattle.swc_base_renaming_laws.proofs.SettledPrograms.{programs_take_all}

-- src/settled_laws.rt
pub returns : goal.returns
returns c = programs_take_all
