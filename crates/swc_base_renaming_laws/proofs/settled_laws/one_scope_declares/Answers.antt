use Rattle.swc_base_renaming_laws.proofs.settled_laws.one_scope_declares.Goals as goal
use Rattle.swc_base_renaming_laws.proofs.Once.{one_scope_declares}

-- src/settled_laws.rt
pub returns : goal.returns
returns c = one_scope_declares
