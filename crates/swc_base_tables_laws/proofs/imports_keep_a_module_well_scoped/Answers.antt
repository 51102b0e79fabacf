use Rattle.swc_base_tables_laws.proofs.imports_keep_a_module_well_scoped.Goals as goal
use Rattle.swc_base_tables_laws.proofs.ImportsLaw.{imports_keep_well_scoped}

-- src/lib.rt
pub returns : goal.returns
returns c = imports_keep_well_scoped
