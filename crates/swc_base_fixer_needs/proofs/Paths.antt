-- A pair at a path: where there is none, and what is left of a node without it.
use Rattle.std.proofs.Common.{◌≡◌, ℕ, zero, suc, Bool, true, false, ◌&&◌, List, [], ◌∷◌, map, refl, sym, ap, ◌∙◌, rules, true≢false}
use Rattle.std.specs.Prelude.{Option, Some, None, is_some, slice_get}
use Rattle.std.specs.List.{list_all}
use Rattle.swc_tree_node.specs.declared.kind.Kind.{Kind}
use Rattle.swc_tree_node.specs.declared.kind.Kind.TheVariants as kind
use Rattle.swc_tree_node.specs.declared.node.Node.{Node, List as Many, Tree, the_lemmas}
use Rattle.swc_tree_node.specs.declared.node.Node.TheOpen.{Node-F}
use Rattle.swc_tree_scoping.specs.Places.{Path, child, given}
use Rattle.swc_tree_grammar.specs.Kinds.{has_kind, is_block}
use Rattle.swc_tree_grammar.specs.Levels.{word_of, is_absent}
use Rattle.swc_tree_grammar.specs.Forms.{holds}
use Rattle.swc_tree_grammar.specs.Stripped.{is_pairless, pairless_step}
use Rattle.swc_tree_grammar.specs.Needed.{content_in, content_at, is_pair, changed, without_pair}
use Rattle.swc_tree_grammar.proofs.Induction.{by_children}
use Rattle.swc_tree_grammar_laws.proofs.Levelled.{both}
use Rattle.swc_base_fixer_needs.specs.Sites.{Clue, clue}

-- no pair
pairless_tree : (k : Kind) (ts : List Node) → is_pairless (Tree k ts) ≡ pairless_step (Node-F.Tree k (map is_pairless ts))
pairless_tree k ts = search (rules, the_lemmas)

pairless_list : (ts : List Node) → is_pairless (Many ts) ≡ list_all (λ b. b) (map is_pairless ts)
pairless_list ts = search (rules, the_lemmas)

each_pairless : (ts : List Node) → list_all (λ b. b) (map is_pairless ts) ≡ list_all is_pairless ts
each_pairless [] = refl
each_pairless (t ∷ ts) = ap (λ b. is_pairless t && b) (each_pairless ts)

parts_in : (k : Kind) (bs : List Bool) → pairless_step (Node-F.Tree k bs) ≡ true → list_all (λ b. b) bs ≡ true
parts_in kind.ParenExpr bs h = absurd (true≢false (sym h))
parts_in k bs h = h

pub parts_pairless : (k : Kind) (ts : List Node) → is_pairless (Tree k ts) ≡ true → list_all is_pairless ts ≡ true
parts_pairless k ts h = sym (each_pairless ts) ∙ parts_in k (map is_pairless ts) (sym (pairless_tree k ts) ∙ h)

pub items_pairless : (ts : List Node) → is_pairless (Many ts) ≡ true → list_all is_pairless ts ≡ true
items_pairless ts h = sym (each_pairless ts) ∙ sym (pairless_list ts) ∙ h

bare_in : (k : Kind) (ts : List Node) → pairless_step (Node-F.Tree k (map is_pairless ts)) ≡ true → is_some (content_in (Node-F.Tree k ts)) ≡ false
bare_in kind.ParenExpr ts h = absurd (true≢false (sym h))
bare_in k ts h = refl

no_pair_here : (t : Node) → is_pairless t ≡ true → is_pair t [] ≡ false
no_pair_here t = by_children (λ t. is_pairless t ≡ true → is_pair t [] ≡ false)
    (λ h. search (rules, the_lemmas), λ x h. search (rules, the_lemmas), λ w h. search (rules, the_lemmas), λ x h. search (rules, the_lemmas), λ s h. search (rules, the_lemmas), λ k i h. search (rules, the_lemmas))
    (λ ts l h. search (rules, the_lemmas))
    (λ k ts l h. (let e : is_pair (Tree k ts) [] ≡ is_some (content_in (Node-F.Tree k ts)) = search (rules, the_lemmas) in e ∙ bare_in k ts (sym (pairless_tree k ts) ∙ h))) t

pub child_of_tree : (k : Kind) (ts : List Node) (i : ℕ) → child (Tree k ts) i ≡ slice_get ts i
child_of_tree k ts i = search (rules, the_lemmas)

pub child_of_list : (ts : List Node) (i : ℕ) → child (Many ts) i ≡ slice_get ts i
child_of_list ts i = search (rules, the_lemmas)

item_pairless : (ts : List Node) (i : ℕ) → list_all is_pairless ts ≡ true → given (slice_get ts i) true is_pairless ≡ true
item_pairless [] i h = refl
item_pairless (t ∷ ts) zero h = (both (is_pairless t) (list_all is_pairless ts) h).0
item_pairless (t ∷ ts) (suc i) h = item_pairless ts i (both (is_pairless t) (list_all is_pairless ts) h).1

child_pairless : (t : Node) (i : ℕ) → is_pairless t ≡ true → given (child t i) true is_pairless ≡ true
child_pairless t i = by_children (λ t. is_pairless t ≡ true → given (child t i) true is_pairless ≡ true)
    (λ h. search (rules, the_lemmas), λ x h. search (rules, the_lemmas), λ w h. search (rules, the_lemmas), λ x h. search (rules, the_lemmas), λ s h. search (rules, the_lemmas), λ k i h. search (rules, the_lemmas))
    (λ ts l h. rw (child_of_list ts i) (item_pairless ts i (items_pairless ts h)))
    (λ k ts l h. rw (child_of_tree k ts i) (item_pairless ts i (parts_pairless k ts h))) t

no_pair_at : (p : Path) → ((t : Node) → is_pairless t ≡ true → is_pair t p ≡ false) → (o : Option Node) → given o true is_pairless ≡ true → is_some (given o None (λ u. content_at u p)) ≡ false
no_pair_at p f None h = refl
no_pair_at p f (Some u) h = f u h

pub no_pair : (p : Path) (t : Node) → is_pairless t ≡ true → is_pair t p ≡ false
no_pair [] t h = no_pair_here t h
no_pair (i ∷ p) t h = no_pair_at p (λ u. no_pair p u) (child t i) (child_pairless t i h)

-- without the pair
pub without_of_tree : (k : Kind) (ts : List Node) (i : ℕ) (p : Path) → without_pair (Tree k ts) (i ∷ p) ≡ Tree k (changed (λ u. without_pair u p) i ts)
without_of_tree k ts i p = search (rules, the_lemmas)

pub without_of_list : (ts : List Node) (i : ℕ) (p : Path) → without_pair (Many ts) (i ∷ p) ≡ Many (changed (λ u. without_pair u p) i ts)
without_of_list ts i p = search (rules, the_lemmas)

abbrev tree_clue : Kind → Clue
tree_clue k = record { word = None; absent = false; flag = false; block = is_block k }

pub clue_of_tree : (k : Kind) (ts : List Node) → clue (Tree k ts) ≡ tree_clue k
clue_of_tree k ts =
    let w : word_of (Tree k ts) ≡ None = search (rules, the_lemmas) in let a : is_absent (Tree k ts) ≡ false = search (rules, the_lemmas) in
    let f : holds (Tree k ts) ≡ false = search (rules, the_lemmas) in let b : has_kind is_block (Tree k ts) ≡ is_block k = search (rules, the_lemmas) in rw (w, a, f, b) refl

pub clue_of_list : (ts us : List Node) → clue (Many ts) ≡ clue (Many us)
clue_of_list ts us = search (rules, the_lemmas)
