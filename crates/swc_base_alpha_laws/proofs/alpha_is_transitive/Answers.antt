use Rattle.swc_base_alpha_laws.proofs.alpha_is_transitive.Goals as goal
use Rattle.swc_base_alpha_laws.proofs.Equivalence.{alpha_is_transitive}

-- src/lib.rt
pub returns : goal.returns
returns c = alpha_is_transitive
