-- What plain forms are, form by form.
use Rattle.std.proofs.Common.{◌≡◌, Bool, true, false, ◌&&◌, Some, None, List, [], ◌∷◌, map, refl, sym, ap, ◌∙◌, rules}
use Rattle.std.specs.Prelude.{if◌then◌else◌}
use Rattle.swc_tree_node.specs.declared.kind.Kind.{Kind}
use Rattle.swc_tree_node.specs.declared.node.Node.{Node, List as Many, Tree, the_lemmas}
use Rattle.swc_tree_node.specs.declared.node.Node.TheOpen.{Node-F}
use Rattle.swc_tree_node.specs.Changed.{nodes_in, with_children}
use Rattle.swc_tree_node.specs.Parts.{has_parts, kind_of}
use Rattle.swc_tree_node.proofs.Leaves.{without_parts}
use Rattle.swc_tree_node.proofs.Lent.{list_of_children, none_of_children, tree_of_children}
use Rattle.swc_tree_grammar.proofs.Wholes.{carried}
use Rattle.swc_base_plain_form.specs.PlainForm.{Forms, forms, forms_step, holds_statements, is_string, literal, parts}

pub whole_is : (t : Node) → (forms t).whole ≡ t
whole_is = carried Forms forms_step (λ f. f.whole) (λ x. refl)

forms_of_list : (ts : List Node) → forms (Many ts) ≡ forms_step (Node-F.List (map forms ts))
forms_of_list ts = search (rules, the_lemmas)

forms_of_tree : (k : Kind) (ts : List Node) → forms (Tree k ts) ≡ forms_step (Node-F.Tree k (map forms ts))
forms_of_tree k ts = search (rules, the_lemmas)

pub plain_of_list : (b : Bool) (ts : List Node) → (forms (Many ts)).plain b ≡ Many (parts b false (map forms ts))
plain_of_list b ts = ap (λ (f : Forms). f.plain b) (forms_of_list ts)

pub plain_of_tree : (b : Bool) (k : Kind) (ts : List Node) → (forms (Tree k ts)).plain b ≡ Tree k (literal k (parts false (holds_statements b k) (map forms ts)))
plain_of_tree b k ts = ap (λ (f : Forms). f.plain b) (forms_of_tree k ts)

pub plain_leaves : (b : Bool) (t : Node) → has_parts t ≡ false → (forms t).plain b ≡ t
plain_leaves b = without_parts (λ t. (forms t).plain b ≡ t)
    (search (rules, the_lemmas), (λ x. search (rules, the_lemmas)), (λ w. search (rules, the_lemmas)), (λ x. search (rules, the_lemmas)), (λ s. search (rules, the_lemmas)))
    (λ k i. search (rules, the_lemmas))

pub leaf_plain : (b : Bool) (t : Node) → None ≡ nodes_in t → t ≡ (forms t).plain b
leaf_plain b t h = sym (plain_leaves b t (none_of_children t h))

pub list_plain : (b : Bool) (t : Node) (ts us : List Node) → None ≡ kind_of t → Some ts ≡ nodes_in t → us ≡ parts b false (map forms ts) → with_children t us ≡ (forms t).plain b
list_plain b t ts us n h e =
    let q = list_of_children t ts us n h in
    q.1 ∙ ap Many e ∙ sym (plain_of_list b ts) ∙ ap (λ u. (forms u).plain b) (sym q.0)

pub tree_plain : (b : Bool) (t : Node) (k : Kind) (ts us : List Node) → Some k ≡ kind_of t → Some ts ≡ nodes_in t → us ≡ literal k (parts false (holds_statements b k) (map forms ts)) → with_children t us ≡ (forms t).plain b
tree_plain b t k ts us n h e =
    let q = tree_of_children t k ts us n h in
    q.1 ∙ ap (Tree k) e ∙ sym (plain_of_tree b k ts) ∙ ap (λ u. (forms u).plain b) (sym q.0)

-- ---- parts

pub parts_of_string : (lead within : Bool) (t : Node) (fs : List Forms) → (lead && is_string t) ≡ true → parts lead within (forms t ∷ fs) ≡ t ∷ parts true within fs
parts_of_string lead within t fs h =
    ap (λ (b : Bool). if b then (forms t).whole ∷ parts true within fs else map (λ (g : Forms). g.plain within) (forms t ∷ fs)) (ap (λ u. lead && is_string u) (whole_is t) ∙ h)
    ∙ ap (λ u. u ∷ parts true within fs) (whole_is t)

without_lead : (within : Bool) (fs : List Forms) → map (λ (g : Forms). g.plain within) fs ≡ parts false within fs
without_lead within [] = refl
without_lead within (f ∷ fs) = refl

pub parts_of_other : (lead within : Bool) (t : Node) (fs : List Forms) → (lead && is_string t) ≡ false → parts lead within (forms t ∷ fs) ≡ (forms t).plain within ∷ parts false within fs
parts_of_other lead within t fs h =
    ap (λ (b : Bool). if b then (forms t).whole ∷ parts true within fs else map (λ (g : Forms). g.plain within) (forms t ∷ fs)) (ap (λ u. lead && is_string u) (whole_is t) ∙ h)
    ∙ ap (λ us. (forms t).plain within ∷ us) (without_lead within fs)
