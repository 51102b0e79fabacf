use Rattle.swc_base_rename_naming_laws.proofs.names_in_order_are_named.Goals as goal
use Rattle.swc_base_rename_naming_laws.proofs.Names.{names_in_order_are_named}

-- src/lib.rt
pub returns : goal.returns
returns c = names_in_order_are_named
