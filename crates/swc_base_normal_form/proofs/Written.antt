-- What writing out does, form by form.
use Rattle.std.proofs.Common.{◌≡◌, false, Some, List, map, sym, ap, ◌∙◌, rules}
use Rattle.swc_tree_node.specs.declared.kind.Kind.{Kind}
use Rattle.swc_tree_node.specs.declared.node.Node.{Node, Tree, the_lemmas}
use Rattle.swc_tree_node.specs.declared.node.Node.TheOpen.{Node-F}
use Rattle.swc_tree_node.specs.Changed.{nodes_in}
use Rattle.swc_tree_node.specs.Parts.{has_parts, kind_of}
use Rattle.swc_tree_node.proofs.Leaves.{without_parts}
use Rattle.swc_tree_node.proofs.Lent.{tree_of_children}
use Rattle.swc_tree_grammar.specs.Normal.{written_out, written_step}

written_of_tree : (k : Kind) (ts : List Node) → written_out (Tree k ts) ≡ written_step (Node-F.Tree k (map written_out ts))
written_of_tree k ts = search (rules, the_lemmas)

pub written_leaves : (t : Node) → has_parts t ≡ false → written_out t ≡ t
written_leaves = without_parts (λ t. written_out t ≡ t)
    (search (rules, the_lemmas), (λ x. search (rules, the_lemmas)), (λ w. search (rules, the_lemmas)), (λ x. search (rules, the_lemmas)), (λ s. search (rules, the_lemmas)))
    (λ k i. search (rules, the_lemmas))

-- a tree whose fields are written out, and then it itself
pub tree_replaced : (t now : Node) (k : Kind) (ts us : List Node) → Some k ≡ kind_of t → Some ts ≡ nodes_in t → us ≡ map written_out ts → now ≡ written_step (Node-F.Tree k us) → now ≡ written_out t
tree_replaced t now k ts us n h e d =
    let q = tree_of_children t k ts ts n h in
    d ∙ ap (λ us. written_step (Node-F.Tree k us)) e ∙ sym (written_of_tree k ts) ∙ ap written_out (sym q.0)
