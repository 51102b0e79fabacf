-- Where nodes stand, by the form of a tree, and one node after another.
use Rattle.std.proofs.Common.{◌≡◌, ℕ, ◌+◌, ◌<◌, ◌≤◌, List, [], ◌∷◌, ◌++◌, Some, None, drop, map, take, length, get_or, refl, sym, ap, ◌∙◌, rules}
use Rattle.std.proofs.lemmas.List.{drop-map, flat_map_more, take_all, take_more}
use Rattle.std.specs.List.{flat_map}
use Rattle.swc_tree_marks.specs.declared.ident.Ident.{Ident}
use Rattle.swc_tree_marks.specs.declared.span.Span.{Span}
use Rattle.swc_tree_node.specs.declared.kind.Kind.{Kind}
use Rattle.swc_tree_node.specs.declared.node.Node.{Node, List as Many, Tree, the_lemmas}
use Rattle.swc_tree_node.specs.declared.node.Node.TheOpen.{Node-F}
use Rattle.mucwathi_looks.specs.Spots.{Stood, spots, spots_step, untold}

all_mapped : (ts : List Node) → flat_map (λ (l : List Stood). l) (map spots ts) ≡ flat_map spots ts
all_mapped [] = refl
all_mapped (t ∷ ts) = ap (λ l. spots t ++ l) (all_mapped ts)

step_of_tree : (k : Kind) (ts : List Node) → spots (Tree k ts) ≡ spots_step (Node-F.Tree k (map spots ts))
step_of_tree k ts = search (rules, the_lemmas)

step_of_list : (ts : List Node) → spots (Many ts) ≡ spots_step (Node-F.List (map spots ts))
step_of_list ts = search (rules, the_lemmas)

pub spots_of_tree : (t : Node) (k : Kind) (ts : List Node) → t ≡ Tree k ts → spots t ≡ flat_map spots (drop (untold k) ts)
spots_of_tree t k ts is =
    ap spots is ∙ step_of_tree k ts ∙ ap (flat_map (λ (l : List Stood). l)) (drop-map spots (untold k) ts) ∙ all_mapped (drop (untold k) ts)

pub spots_of_list : (t : Node) (ts : List Node) → t ≡ Many ts → spots t ≡ flat_map spots ts
spots_of_list t ts is = ap spots is ∙ step_of_list ts ∙ all_mapped ts

pub spots_more : (ts : List Node) (i : ℕ) (t : Node) (old mid new : List Stood) → i < length ts → t ≡ get_or ts i t → mid ≡ old ++ flat_map spots (take i ts) → new ≡ mid ++ spots t → new ≡ old ++ flat_map spots (take (i + 1) ts)
spots_more ts i t old mid new within is h k =
    k ∙ ap (λ l. l ++ spots t) h ∙ flat_map_more spots old (take i ts) t ∙ ap (λ l. old ++ flat_map spots l) (ap (λ (z : Node). take i ts ++ z ∷ []) is ∙ sym (take_more ts i t within))

pub spots_all : (ts : List Node) (i : ℕ) (old new : List Stood) → length ts ≤ i → new ≡ old ++ flat_map spots (take i ts) → new ≡ old ++ flat_map spots ts
spots_all ts i old new ended h = h ∙ ap (λ l. old ++ flat_map spots l) (take_all i ts ended)
