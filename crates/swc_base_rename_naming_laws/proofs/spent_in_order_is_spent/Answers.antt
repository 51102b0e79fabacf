use Rattle.swc_base_rename_naming_laws.proofs.spent_in_order_is_spent.Goals as goal
use Rattle.swc_base_rename_naming_laws.proofs.Names.{spent_in_order_is_spent}

-- src/lib.rt
pub returns : goal.returns
returns c = spent_in_order_is_spent
