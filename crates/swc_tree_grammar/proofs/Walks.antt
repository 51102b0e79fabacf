-- What the folds over a tree say at each form of a node.
use Rattle.std.proofs.Common.{◌≡◌, ◌&&◌, List, [], ◌∷◌, ◌++◌, map, refl, ap, ◌∙◌, rules}
use Rattle.std.specs.List.{list_all, flat_map}
use Rattle.swc_tree_node.specs.declared.kind.Kind.{Kind}
use Rattle.swc_tree_node.specs.declared.node.Node.{Node, List as Many, Tree, the_lemmas}
use Rattle.swc_tree_node.specs.declared.node.Node.TheOpen.{Node-F}
use Rattle.swc_tree_grammar.specs.Blocks.{span_of, span_step, takes_else, takes_else_step, with_blocks, block_step}
use Rattle.swc_tree_grammar.specs.Pairs.{found, found_step, all_of, own_of, inside_of, pairs, pairs_inside}
use Rattle.swc_tree_grammar.specs.Targets.{seen, seen_step, bare_in, target_in, pair_in, is_target, all_bare}

pub span_of_tree : (k : Kind) (ts : List Node) → span_of (Tree k ts) ≡ span_step (Node-F.Tree k (map span_of ts))
span_of_tree k ts = search (rules, the_lemmas)

pub takes_else_of_tree : (k : Kind) (ts : List Node) → takes_else (Tree k ts) ≡ takes_else_step (Node-F.Tree k (map takes_else ts))
takes_else_of_tree k ts = search (rules, the_lemmas)

pub blocks_of_tree : (k : Kind) (ts : List Node) → with_blocks (Tree k ts) ≡ block_step (Node-F.Tree k (map with_blocks ts))
blocks_of_tree k ts = search (rules, the_lemmas)

pub blocks_of_list : (ts : List Node) → with_blocks (Many ts) ≡ Many (map with_blocks ts)
blocks_of_list ts = search (rules, the_lemmas)

seen_of_tree : (k : Kind) (ts : List Node) → seen (Tree k ts) ≡ seen_step (Node-F.Tree k (map seen ts))
seen_of_tree k ts = search (rules, the_lemmas)

seen_of_list : (ts : List Node) → seen (Many ts) ≡ seen_step (Node-F.List (map seen ts))
seen_of_list ts = search (rules, the_lemmas)

bare_each : (ts : List Node) → list_all (λ e. e.all_bare) (map seen ts) ≡ list_all all_bare ts
bare_each [] = refl
bare_each (t ∷ ts) = ap (λ b. all_bare t && b) (bare_each ts)

pub bare_of_tree : (k : Kind) (ts : List Node) → all_bare (Tree k ts) ≡ (bare_in (Node-F.Tree k (map seen ts)) && list_all all_bare ts)
bare_of_tree k ts = ap (λ s. s.all_bare) (seen_of_tree k ts) ∙ ap (λ b. bare_in (Node-F.Tree k (map seen ts)) && b) (bare_each ts)

pub bare_of_list : (ts : List Node) → all_bare (Many ts) ≡ list_all all_bare ts
bare_of_list ts = ap (λ s. s.all_bare) (seen_of_list ts) ∙ bare_each ts

pub target_of_tree : (k : Kind) (ts : List Node) → is_target (Tree k ts) ≡ target_in (Node-F.Tree k (map seen ts))
target_of_tree k ts = ap (λ s. s.is_target) (seen_of_tree k ts)

pub target_of_list : (ts : List Node) → is_target (Many ts) ≡ target_in (Node-F.List (map seen ts))
target_of_list ts = ap (λ s. s.is_target) (seen_of_list ts)

pub pair_of_tree : (k : Kind) (ts : List Node) → (seen (Tree k ts)).is_pair ≡ pair_in (Node-F.Tree k (map seen ts))
pair_of_tree k ts = ap (λ s. s.is_pair) (seen_of_tree k ts)

found_of_tree : (k : Kind) (ts : List Node) → found (Tree k ts) ≡ found_step (Node-F.Tree k (map found ts))
found_of_tree k ts = search (rules, the_lemmas)

found_of_list : (ts : List Node) → found (Many ts) ≡ found_step (Node-F.List (map found ts))
found_of_list ts = search (rules, the_lemmas)

pub pairs_each : (ts : List Node) → flat_map all_of (map found ts) ≡ flat_map pairs ts
pairs_each [] = refl
pairs_each (t ∷ ts) = ap (λ ps. pairs t ++ ps) (pairs_each ts)

pub pairs_of_list : (ts : List Node) → pairs (Many ts) ≡ flat_map pairs ts
pairs_of_list ts = ap all_of (found_of_list ts) ∙ pairs_each ts

pub pairs_of_tree : (k : Kind) (ts : List Node) → pairs (Tree k ts) ≡ own_of (Node-F.Tree k (map found ts)) ++ inside_of (Node-F.Tree k (map found ts))
pairs_of_tree k ts = ap all_of (found_of_tree k ts)

pub inside_of_tree : (k : Kind) (ts : List Node) → pairs_inside (Tree k ts) ≡ inside_of (Node-F.Tree k (map found ts))
inside_of_tree k ts = ap (λ f. f.inside) (found_of_tree k ts)

pub inside_of_list : (ts : List Node) → pairs_inside (Many ts) ≡ flat_map pairs ts
inside_of_list ts = ap (λ f. f.inside) (found_of_list ts) ∙ pairs_each ts
