use Rattle.swc_base_renaming_laws.proofs.units_laws.maps_by_units_are_flat.Goals as goal
use Rattle.swc_base_renaming_laws.proofs.Laws.{maps_by_units_are_flat}

-- src/units_laws.rt
pub returns : goal.returns
returns c = maps_by_units_are_flat
