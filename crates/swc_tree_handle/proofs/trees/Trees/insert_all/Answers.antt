use Rattle.std.proofs.Common.{sym, subst}
use Rattle.swc_tree_node.specs.declared.slot.Slot.TheVariants.{One}
use Rattle.swc_tree_node.specs.declared.slot.Content.TheVariants.{Node as Of}
use Rattle.swc_tree_node.specs.Fits.{AllFit}
use Rattle.swc_tree_handle.proofs.Handles.{all_inserted}
use Rattle.swc_tree_handle.proofs.trees.Trees.insert_all.Goals as goal

pub invariant_of-self-2 : goal.invariant_of-self-2
invariant_of-self-2 g c =
    subst (λ ts. AllFit (One (Of g.C.Syntax.class)) ts) (sym c.in_ok-insert_all.ensures.ok)
    (all_inserted (One (Of g.C.Syntax.class)) c.self.inside.nodes c.into_nodes.result c.args.index c.self.invariant c.into_nodes.ensures.fit)
