use Rattle.swc_base_alpha_laws.proofs.one_text_is_enough.Goals as goal
use Rattle.swc_base_alpha_laws.proofs.Alike.{one_text_is_enough}

-- src/lib.rt
pub returns : goal.returns
returns c = one_text_is_enough
