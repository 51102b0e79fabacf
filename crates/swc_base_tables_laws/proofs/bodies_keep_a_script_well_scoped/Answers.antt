use Rattle.swc_base_tables_laws.proofs.bodies_keep_a_script_well_scoped.Goals as goal
use Rattle.swc_base_tables_laws.proofs.BodiesLaw.{bodies_keep_script_well_scoped}

-- src/lib.rt
pub returns : goal.returns
returns c = bodies_keep_script_well_scoped
