-- A tree with other contexts fits where the tree does.
use Rattle.std.proofs.Common.{◌≡◌, ap, ◌∙◌}
use Rattle.swc_tree_node.specs.declared.slot.Slot.{Slot}
use Rattle.swc_tree_node.specs.declared.node.Node.{Node}
use Rattle.swc_tree_node.specs.Fits.{Fits, fits}
use Rattle.swc_tree_scoping.specs.Resolved.{Contexts, remarked}
use Rattle.swc_tree_scoping.proofs.Remarked.{fits-remarked}

pub remarked_fits : (c : Contexts) (t u : Node) (s : Slot) → u ≡ remarked c t → Fits t s → Fits u s
remarked_fits c t u s e f = ap (λ t. fits t s) e ∙ fits-remarked c t s ∙ f
