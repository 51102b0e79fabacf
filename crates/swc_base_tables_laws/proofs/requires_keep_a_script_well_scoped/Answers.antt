use Rattle.swc_base_tables_laws.proofs.requires_keep_a_script_well_scoped.Goals as goal
use Rattle.swc_base_tables_laws.proofs.RequiresLaw.{requires_keep_well_scoped}

-- src/lib.rt
pub returns : goal.returns
returns c = requires_keep_well_scoped
