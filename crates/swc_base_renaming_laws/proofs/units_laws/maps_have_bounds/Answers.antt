use Rattle.swc_base_renaming_laws.proofs.units_laws.maps_have_bounds.Goals as goal
use Rattle.swc_base_renaming_laws.proofs.Bounds.{maps_have_bounds}

-- src/units_laws.rt
pub returns : goal.returns
returns c = maps_have_bounds
