-- A node in which no name may stand is clear.
use Rattle.std.proofs.Common.{◌≡◌, false, rules}
use Rattle.swc_tree_node.specs.declared.node.Node.{Node, the_lemmas}
use Rattle.swc_tree_node.specs.Parts.{may_hold_names}
use Rattle.swc_tree_node.proofs.Leaves.{without_names}
use Rattle.swc_tree_scoping.specs.Readings.{by_texts}

pub cleared_leaf : (t : Node) → may_hold_names t ≡ false → by_texts t ≡ t
cleared_leaf = without_names (λ t. by_texts t ≡ t)
    (search (rules, the_lemmas), (λ x. search (rules, the_lemmas)), (λ w. search (rules, the_lemmas)), (λ x. search (rules, the_lemmas)), (λ s. search (rules, the_lemmas)))
