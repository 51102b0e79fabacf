use Rattle.swc_base_alpha_laws.proofs.names_stand_for_their_ids.Goals as goal
use Rattle.swc_base_alpha_laws.proofs.Ids.{names_stand_for_their_ids}

-- src/lib.rt
pub returns : goal.returns
returns c = names_stand_for_their_ids
