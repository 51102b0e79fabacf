use Rattle.swc_base_alpha_laws.proofs.resolvers_agree.Goals as goal
use Rattle.swc_base_alpha_laws.proofs.Ids.{resolvers_agree}

-- src/lib.rt
pub returns : goal.returns
returns c = resolvers_agree
