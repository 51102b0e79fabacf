use Rattle.swc_base_renaming_laws.proofs.units_laws.refusals_are_of_crowding.Goals as goal
use Rattle.swc_base_renaming_laws.proofs.Bounds.{refusals_are_of_crowding}

-- src/units_laws.rt
pub returns : goal.returns
returns c = refusals_are_of_crowding
