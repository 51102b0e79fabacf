-- The walk that finds pairs sees where each node stands.
use Rattle.std.proofs.Common.{◌≡◌, List, [], ◌∷◌, map, refl, sym, ap, ◌∙◌, rules}
use Rattle.swc_tree_node.specs.declared.kind.Kind.{Kind}
use Rattle.swc_tree_node.specs.declared.node.Node.{Node, Tree, the_lemmas}
use Rattle.swc_tree_node.specs.declared.node.Node.TheOpen.{Node-F}
use Rattle.swc_tree_grammar.specs.Blocks.{span_of, span_step}
use Rattle.swc_tree_grammar.specs.Pairs.{found}
use Rattle.swc_tree_grammar.proofs.Induction.{Each, by_children}
use Rattle.swc_tree_grammar.proofs.Walks.{span_of_tree}

abbrev Same : Node → Type 0
Same t = (found t).span ≡ span_of t

sames : (ts : List Node) → Each Same ts → map (λ f. f.span) (map found ts) ≡ map span_of ts
sames [] h = refl
sames (t ∷ ts) h = rw (h.0, sames ts h.1) refl

span_found : (k : Kind) (ts : List Node) → (found (Tree k ts)).span ≡ span_step (Node-F.Tree k (map (λ f. f.span) (map found ts)))
span_found k ts = search (rules, the_lemmas)

pub found_span : (t : Node) → Same t
found_span t = by_children Same
    (search (rules, the_lemmas), λ x. search (rules, the_lemmas), λ w. search (rules, the_lemmas), λ x. search (rules, the_lemmas), λ s. search (rules, the_lemmas), λ k i. search (rules, the_lemmas))
    (λ ts h. search (rules, the_lemmas))
    (λ k ts h. span_found k ts ∙ ap (λ ss. span_step (Node-F.Tree k ss)) (sames ts h) ∙ sym (span_of_tree k ts)) t
