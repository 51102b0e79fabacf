-- What the walk asks of the first step.
use Rattle.std.proofs.Common.{◌≡◌, Bool, false, List, [], ◌∷◌, map, refl, sym, ap, ◌∙◌, rules}
use Rattle.swc_tree_node.specs.declared.kind.Kind.{Kind}
use Rattle.swc_tree_node.specs.declared.kind.Kind.TheVariants as kind
use Rattle.swc_tree_node.specs.declared.node.Node.{Node, List as Many, Tree, the_lemmas}
use Rattle.swc_tree_node.specs.declared.node.Node.TheOpen.{Node-F}
use Rattle.swc_tree_node.specs.Parts.{has_parts}
use Rattle.swc_tree_node.proofs.Leaves.{without_parts}
use Rattle.swc_tree_grammar.specs.Due.{Places, Pairing, alone, level_step, paired_in}
use Rattle.swc_base_fixer_due.specs.Walk.{by_level, each_told, is_base, is_chain_in}

alone_told : (f : Node → Pairing) (ts : List Node) → map alone (map f ts) ≡ each_told f (λ i. false) ts
alone_told f [] = refl
alone_told f (t ∷ ts) = ap (λ us. f t false ∷ us) (alone_told f ts)

level_of_tree : (p : Places) (k : Kind) (ts : List Node) (b : Bool) → by_level p (Tree k ts) b ≡ level_step p (Node-F.Tree k (map (by_level p) ts)) b
level_of_tree p k ts b = search (rules, the_lemmas)

level_of_list : (p : Places) (ts : List Node) (b : Bool) → by_level p (Many ts) b ≡ Many (map alone (map (by_level p) ts))
level_of_list p ts b = search (rules, the_lemmas)

-- a list, once its items have their pairs
pub level_list : (p : Places) (b : Bool) (ts : List Node) → Many (each_told (by_level p) (is_base false) ts) ≡ by_level p (Many ts) b
level_list p b ts = ap Many (sym (alone_told (by_level p) ts)) ∙ sym (level_of_list p ts b)

stepped : (p : Places) (k : Kind) (ts : List Node) (b : Bool) → level_step p (Node-F.Tree k (map (by_level p) ts)) b ≡ paired_in p b (Node-F.Tree k (each_told (by_level p) (is_base (is_chain_in (Node-F.Tree k ts))) ts))
stepped p kind.OptChainExpr (x ∷ y ∷ z ∷ []) b = refl
stepped p k ts b = ap (λ us. paired_in p b (Node-F.Tree k us)) (alone_told (by_level p) ts)

-- a tree, once its fields have their pairs
pub level_tree : (p : Places) (b : Bool) (k : Kind) (ts : List Node) → paired_in p b (Node-F.Tree k (each_told (by_level p) (is_base (is_chain_in (Node-F.Tree k ts))) ts)) ≡ by_level p (Tree k ts) b
level_tree p b k ts = sym (level_of_tree p k ts b ∙ stepped p k ts b)

-- a node with nothing below it stays
pub levels_leave : (p : Places) (b : Bool) (t : Node) → has_parts t ≡ false → by_level p t b ≡ t
levels_leave p b = without_parts (λ t. by_level p t b ≡ t)
    (search (rules, the_lemmas), (λ x. search (rules, the_lemmas)), (λ w. search (rules, the_lemmas)), (λ x. search (rules, the_lemmas)), (λ s. search (rules, the_lemmas))) (λ k i. search (rules, the_lemmas))
