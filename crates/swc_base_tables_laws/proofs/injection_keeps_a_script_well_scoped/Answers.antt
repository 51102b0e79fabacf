use Rattle.swc_base_tables_laws.proofs.injection_keeps_a_script_well_scoped.Goals as goal
use Rattle.swc_base_tables_laws.proofs.InjectionLaw.{injection_keeps_script_well_scoped}

-- src/lib.rt
pub returns : goal.returns
returns c = injection_keeps_script_well_scoped
