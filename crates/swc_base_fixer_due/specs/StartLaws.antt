-- What the walk asks of the third step.
use Rattle.std.proofs.Common.{◌≡◌, false, List, [], ◌∷◌, map, refl, sym, ap, ◌∙◌, rules}
use Rattle.swc_tree_node.specs.declared.kind.Kind.{Kind}
use Rattle.swc_tree_node.specs.declared.node.Node.{Node, List as Many, Tree, the_lemmas}
use Rattle.swc_tree_node.specs.declared.node.Node.TheOpen.{Node-F}
use Rattle.swc_tree_node.specs.Parts.{has_parts}
use Rattle.swc_tree_node.proofs.Leaves.{without_parts}
use Rattle.swc_tree_grammar.specs.Due.{Places, begin_step, paired_at_starts}
use Rattle.swc_base_fixer_due.specs.Walk.{each_told}

starts_of_tree : (p : Places) (k : Kind) (ts : List Node) → paired_at_starts p (Tree k ts) ≡ begin_step p (Node-F.Tree k (map (paired_at_starts p) ts))
starts_of_tree p k ts = search (rules, the_lemmas)

starts_of_list : (p : Places) (ts : List Node) → paired_at_starts p (Many ts) ≡ Many (map (paired_at_starts p) ts)
starts_of_list p ts = search (rules, the_lemmas)

all_told : (p : Places) (ts : List Node) → each_told (λ t _. paired_at_starts p t) (λ _. false) ts ≡ map (paired_at_starts p) ts
all_told p [] = refl
all_told p (t ∷ ts) = ap (λ us. paired_at_starts p t ∷ us) (all_told p ts)

-- a list, once its items have their pairs
pub starts_list : (p : Places) (ts : List Node) → Many (each_told (λ t _. paired_at_starts p t) (λ _. false) ts) ≡ paired_at_starts p (Many ts)
starts_list p ts = ap Many (all_told p ts) ∙ sym (starts_of_list p ts)

-- a tree, once its fields have their pairs
pub starts_tree : (p : Places) (k : Kind) (ts : List Node) → begin_step p (Node-F.Tree k (each_told (λ t _. paired_at_starts p t) (λ _. false) ts)) ≡ paired_at_starts p (Tree k ts)
starts_tree p k ts = ap (λ us. begin_step p (Node-F.Tree k us)) (all_told p ts) ∙ sym (starts_of_tree p k ts)

-- a node with nothing below it stays
pub starts_leave : (p : Places) (t : Node) → has_parts t ≡ false → paired_at_starts p t ≡ t
starts_leave p = without_parts (λ t. paired_at_starts p t ≡ t)
    (search (rules, the_lemmas), (λ x. search (rules, the_lemmas)), (λ w. search (rules, the_lemmas)), (λ x. search (rules, the_lemmas)), (λ s. search (rules, the_lemmas))) (λ k i. search (rules, the_lemmas))
