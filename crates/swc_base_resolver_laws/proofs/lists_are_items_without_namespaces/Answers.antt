use Rattle.swc_base_resolver_laws.proofs.lists_are_items_without_namespaces.Goals as goal
use Rattle.swc_base_resolver_laws.proofs.ExportLists.{lists_are_items}

-- src/lib.rt
pub returns : goal.returns
returns c = lists_are_items
