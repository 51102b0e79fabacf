use Rattle.swc_base_alpha_laws.proofs.alpha_is_reflexive.Goals as goal
use Rattle.swc_base_alpha_laws.proofs.Equivalence.{alpha_is_reflexive}

-- src/lib.rt
pub returns : goal.returns
returns c = alpha_is_reflexive
