use Rattle.swc_base_alpha_laws.proofs.ids_decide.Goals as goal
use Rattle.swc_base_alpha_laws.proofs.Decided.{ids_decide}

-- src/lib.rt
pub returns : goal.returns
returns c = ids_decide
