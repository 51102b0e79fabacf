-- The pairs in a node, by its form.
use Rattle.std.proofs.Common.{◌≡◌, true, false, List, [], ◌∷◌, ◌++◌, length, map, get_or, append_assoc, refl, sym, ap, ◌∙◌, arith}
use Rattle.std.specs.List.{flat_map}
use Rattle.swc_tree_node.specs.declared.kind.Kind.{Kind}
use Rattle.swc_tree_node.specs.declared.kind.Kind.TheVariants as kind
use Rattle.swc_tree_node.specs.declared.node.Node.{Node, List as Many, Tree}
use Rattle.swc_tree_node.specs.declared.node.Node.TheOpen.{Node-F}
use Rattle.swc_tree_grammar.specs.declared.pairs.Pair.{Pair}
use Rattle.swc_tree_grammar.specs.Blocks.{span_of}
use Rattle.swc_tree_grammar.specs.Pairs.{found, own_of, inside_of, pairs, pairs_inside}
use Rattle.swc_tree_grammar.proofs.Spans.{found_span}
use Rattle.swc_tree_grammar.proofs.Walks.{pairs_each, pairs_of_list, pairs_of_tree, inside_of_list, inside_of_tree}
use Rattle.swc_base_fixer_unparen.specs.Fields.{is_assignment}

pub pairs_in_list : (ts : List Node) → pairs (Many ts) ≡ flat_map pairs ts
pairs_in_list ts = pairs_of_list ts

pub pairs_in_tree : (k : Kind) (ts : List Node) → pairs (Tree k ts) ≡ own_of (Node-F.Tree k (map found ts)) ++ inside_of (Node-F.Tree k (map found ts))
pairs_in_tree k ts = pairs_of_tree k ts

pub below_list : (ts : List Node) → pairs_inside (Many ts) ≡ flat_map pairs ts
below_list ts = inside_of_list ts

pub below_tree : (k : Kind) (ts : List Node) → pairs_inside (Tree k ts) ≡ inside_of (Node-F.Tree k (map found ts))
below_tree k ts = inside_of_tree k ts

pub own_pair : (ts : List Node) (a b : Node) → length ts ≡ 2 → a ≡ get_or ts 0 a → b ≡ get_or ts 1 b
    → own_of (Node-F.Tree kind.ParenExpr (map found ts)) ≡ record { content = span_of b; whole = span_of a } ∷ []
own_pair (x ∷ y ∷ []) a b h g f = rw (g, f) (rw (found_span x, found_span y) refl)
own_pair [] a b h g f = absurd (omega arith)
own_pair (x ∷ []) a b h g f = absurd (omega arith)
own_pair (x ∷ y ∷ z ∷ ts) a b h g f = absurd (omega arith)

-- said once for the kinds that a match leaves: `cc` at each of them is dear
other_kind : {X : Type 0} → false ≡ true → X
other_kind h = absurd (cc)

pub inside_assignment : (k : Kind) (ts : List Node) (l r : Node) → is_assignment k ts ≡ true → l ≡ get_or ts 2 l → r ≡ get_or ts 3 r
    → inside_of (Node-F.Tree k (map found ts)) ≡ pairs_inside l ++ pairs r
inside_assignment kind.AssignExpr (a ∷ b ∷ c ∷ d ∷ []) l r h g f = rw (g, f) refl
inside_assignment k ts l r h g f = other_kind h

-- the two sides of an assignment, one behind the other
pub inside_sides : (k : Kind) (ts : List Node) (l r : Node) (now mid all : List Pair) → is_assignment k ts ≡ true → l ≡ get_or ts 2 l → r ≡ get_or ts 3 r
    → mid ≡ all ++ pairs_inside l → now ≡ mid ++ pairs r → now ≡ all ++ inside_of (Node-F.Tree k (map found ts))
inside_sides k ts l r now mid all h g f m n = rw (n, m) (append_assoc all (pairs_inside l) (pairs r) ∙ ap (λ ps. all ++ ps) (sym (inside_assignment k ts l r h g f)))

pub inside_other : (k : Kind) (ts : List Node) → is_assignment k ts ≡ false → inside_of (Node-F.Tree k (map found ts)) ≡ flat_map pairs ts
inside_other kind.AssignExpr (a ∷ b ∷ c ∷ d ∷ []) h = absurd (cc)
inside_other k ts h = pairs_each ts

pub own_and_inside : (node : Node) (k : Kind) (ts fs : List Node) (now before all : List Pair) → node ≡ Tree k ts → fs ≡ ts
    → before ≡ all ++ own_of (Node-F.Tree k (map found fs)) → now ≡ before ++ inside_of (Node-F.Tree k (map found fs)) → now ≡ all ++ pairs node
own_and_inside node k ts fs now before all n f b w =
    rw (w, b, n, f) (append_assoc all (own_of (Node-F.Tree k (map found ts))) (inside_of (Node-F.Tree k (map found ts))) ∙ ap (λ ps. all ++ ps) (sym (pairs_in_tree k ts)))

pub items_inside : (node : Node) (ts us : List Node) → node ≡ Many ts → us ≡ ts → flat_map pairs us ≡ pairs_inside node
items_inside node ts us is same = ap (flat_map pairs) same ∙ sym (below_list ts) ∙ ap pairs_inside (sym is)

pub items_pairs : (node : Node) (ts us : List Node) → node ≡ Many ts → us ≡ ts → flat_map pairs us ≡ pairs node
items_pairs node ts us is same = ap (flat_map pairs) same ∙ sym (pairs_in_list ts) ∙ ap pairs (sym is)

pub fields_inside : (node : Node) (k : Kind) (ts us : List Node) → node ≡ Tree k ts → us ≡ ts → inside_of (Node-F.Tree k (map found us)) ≡ pairs_inside node
fields_inside node k ts us is same = ap (λ l. inside_of (Node-F.Tree k (map found l))) same ∙ sym (below_tree k ts) ∙ ap pairs_inside (sym is)
