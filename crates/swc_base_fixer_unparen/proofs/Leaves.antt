-- No walk changes a node that has no parts, or finds something in it.
use Rattle.std.proofs.Common.{◌≡◌, true, false, [], rules}
use Rattle.swc_tree_node.specs.declared.node.Node.{Node, the_lemmas}
use Rattle.swc_tree_node.specs.Parts.{has_parts}
use Rattle.swc_tree_node.proofs.Leaves.{without_parts}
use Rattle.swc_tree_grammar.specs.Blocks.{with_blocks}
use Rattle.swc_tree_grammar.specs.Pairs.{pairs}
use Rattle.swc_tree_grammar.specs.Stripped.{stripped}
use Rattle.swc_tree_grammar.specs.Targets.{all_bare}

pub strip_leaves : (t : Node) → has_parts t ≡ false → stripped t ≡ t
strip_leaves = without_parts (λ t. stripped t ≡ t)
    (search (rules, the_lemmas), (λ x. search (rules, the_lemmas)), (λ w. search (rules, the_lemmas)), (λ x. search (rules, the_lemmas)), (λ s. search (rules, the_lemmas)))
    (λ k i. search (rules, the_lemmas))

pub blocks_leave : (t : Node) → has_parts t ≡ false → with_blocks t ≡ t
blocks_leave = without_parts (λ t. with_blocks t ≡ t)
    (search (rules, the_lemmas), (λ x. search (rules, the_lemmas)), (λ w. search (rules, the_lemmas)), (λ x. search (rules, the_lemmas)), (λ s. search (rules, the_lemmas)))
    (λ k i. search (rules, the_lemmas))

pub bare_leaves : (t : Node) → has_parts t ≡ false → all_bare t ≡ true
bare_leaves = without_parts (λ t. all_bare t ≡ true)
    (search (rules, the_lemmas), (λ x. search (rules, the_lemmas)), (λ w. search (rules, the_lemmas)), (λ x. search (rules, the_lemmas)), (λ s. search (rules, the_lemmas)))
    (λ k i. search (rules, the_lemmas))

pub no_pairs : (t : Node) → has_parts t ≡ false → pairs t ≡ []
no_pairs = without_parts (λ t. pairs t ≡ [])
    (search (rules, the_lemmas), (λ x. search (rules, the_lemmas)), (λ w. search (rules, the_lemmas)), (λ x. search (rules, the_lemmas)), (λ s. search (rules, the_lemmas)))
    (λ k i. search (rules, the_lemmas))
