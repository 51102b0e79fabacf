-- What a test of every node says at each form of a node.
use Rattle.std.proofs.Common.{◌≡◌, Bool, ◌&&◌, List, [], ◌∷◌, map, refl, ap, ◌∙◌, rules}
use Rattle.std.specs.List.{list_all}
use Rattle.swc_tree_node.specs.declared.kind.Kind.{Kind}
use Rattle.swc_tree_node.specs.declared.node.Node.{Node, List as Many, Tree, fold-Node, the_lemmas}
use Rattle.swc_tree_node.specs.declared.node.Node.TheOpen.{Node-F}
use Rattle.swc_tree_grammar.proofs.Wholes.{all_carried}
use Rattle.swc_tree_grammar_laws.specs.Every.{Tested, tested_step, every}

abbrev tested : (Node-F Node → Bool) → Node → Tested
tested p = fold-Node Tested (tested_step p)

all_whole : (p : Node-F Node → Bool) (ts : List Node) → map (λ e. e.whole) (map (tested p) ts) ≡ ts
all_whole p ts = all_carried Tested (tested_step p) (λ e. e.whole) (λ x. refl) ts

each_holds : (p : Node-F Node → Bool) (ts : List Node) → list_all (λ e. e.holds) (map (tested p) ts) ≡ list_all (every p) ts
each_holds p [] = refl
each_holds p (t ∷ ts) = ap (λ b. every p t && b) (each_holds p ts)

tested_tree : (p : Node-F Node → Bool) (k : Kind) (ts : List Node) → tested p (Tree k ts) ≡ tested_step p (Node-F.Tree k (map (tested p) ts))
tested_tree p k ts = search (rules, the_lemmas)

tested_list : (p : Node-F Node → Bool) (ts : List Node) → tested p (Many ts) ≡ tested_step p (Node-F.List (map (tested p) ts))
tested_list p ts = search (rules, the_lemmas)

pub every_tree : (p : Node-F Node → Bool) (k : Kind) (ts : List Node) → every p (Tree k ts) ≡ (p (Node-F.Tree k ts) && list_all (every p) ts)
every_tree p k ts = ap (λ e. e.holds) (tested_tree p k ts) ∙ rw (all_whole p ts, each_holds p ts) refl

pub every_list : (p : Node-F Node → Bool) (ts : List Node) → every p (Many ts) ≡ (p (Node-F.List ts) && list_all (every p) ts)
every_list p ts = ap (λ e. e.holds) (tested_list p ts) ∙ rw (all_whole p ts, each_holds p ts) refl
