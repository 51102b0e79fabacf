-- Whether nodes of types stand in a tree, by its form.
use Rattle.std.proofs.Common.{◌≡◌, ◌||◌, false, List, [], ◌∷◌, map, refl, ap, ◌∙◌, rules}
use Rattle.std.specs.List.{list_any}
use Rattle.swc_tree_marks.specs.declared.ident.Ident.{Ident}
use Rattle.swc_tree_node.specs.declared.kind.Kind.{Kind}
use Rattle.swc_tree_node.specs.declared.node.Node.{Node, List as Many, Identifier, Tree, the_lemmas}
use Rattle.swc_tree_node.specs.declared.node.Node.TheOpen.{Node-F}
use Rattle.swc_tree_node.specs.Parts.{has_parts}
use Rattle.swc_tree_node.proofs.Leaves.{Nameless, without_parts}
use Rattle.swc_tree_spaces.specs.Spaces.{has_types, is_of_types, types_step}

any_mapped : (ts : List Node) → list_any (λ b. b) (map has_types ts) ≡ list_any has_types ts
any_mapped [] = refl
any_mapped (t ∷ ts) = ap (λ b. has_types t || b) (any_mapped ts)

step_of_tree : (k : Kind) (ts : List Node) → has_types (Tree k ts) ≡ types_step (Node-F.Tree k (map has_types ts))
step_of_tree k ts = search (rules, the_lemmas)

step_of_list : (ts : List Node) → has_types (Many ts) ≡ types_step (Node-F.List (map has_types ts))
step_of_list ts = search (rules, the_lemmas)

pub types_of_tree : (k : Kind) (ts : List Node) → has_types (Tree k ts) ≡ (is_of_types k || list_any has_types ts)
types_of_tree k ts = step_of_tree k ts ∙ ap (λ b. is_of_types k || b) (any_mapped ts)

pub types_of_list : (ts : List Node) → has_types (Many ts) ≡ list_any has_types ts
types_of_list ts = step_of_list ts ∙ any_mapped ts

pub none_in_identifier : (k : Kind) (i : Ident) → has_types (Identifier k i) ≡ false
none_in_identifier k i = search (rules, the_lemmas)

pub none_without_parts : (t : Node) → has_parts t ≡ false → has_types t ≡ false
none_without_parts =
    let leaves : Nameless (λ t. has_types t ≡ false) = (search (rules, the_lemmas), λ x. search (rules, the_lemmas), λ w. search (rules, the_lemmas), λ x. search (rules, the_lemmas), λ s. search (rules, the_lemmas)) in
    without_parts (λ t. has_types t ≡ false) leaves none_in_identifier
