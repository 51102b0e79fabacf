use Rattle.swc_base_alpha_laws.proofs.alpha_is_symmetric.Goals as goal
use Rattle.swc_base_alpha_laws.proofs.Equivalence.{alpha_is_symmetric}

-- src/lib.rt
pub returns : goal.returns
returns c = alpha_is_symmetric
