use Rattle.swc_base_resolver_laws.proofs.clean_programs_become_well_scoped.Goals as goal
use Rattle.swc_base_resolver_laws.proofs.Whole.{clean_programs_become_well_scoped}

-- src/lib.rt
pub returns : goal.returns
returns c = clean_programs_become_well_scoped
