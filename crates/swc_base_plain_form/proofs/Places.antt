-- No place comes in: where something stands in a plain form, something stands in the tree.
use Rattle.std.proofs.Common.{◌≡◌, ℕ, zero, suc, Bool, true, false, ◌&&◌, IsTrue, Option, Some, None, List, [], ◌∷◌, map, is_some, refl, sym, ap, subst, ◌∙◌, rules}
use Rattle.std.specs.List.{slice_get}
use Rattle.swc_tree_node.specs.declared.kind.Kind.{Kind}
use Rattle.swc_tree_node.specs.declared.kind.Kind.TheVariants as kind
use Rattle.swc_tree_node.specs.declared.node.Node.{Node, Absent, Text, List as Many, Tree, out-Node, the_lemmas}
use Rattle.swc_tree_node.specs.declared.node.Node.TheOpen.{Node-F}
use Rattle.swc_tree_node.specs.Parts.{has_parts}
use Rattle.swc_tree_scoping.specs.Places.{Path, child, given}
use Rattle.swc_tree_walk.specs.Nodes.{node_at}
use Rattle.swc_tree_grammar.proofs.Induction.{Each, by_children}
use Rattle.swc_base_plain_numbers.specs.Numbers.{plain_big, plain_number}
use Rattle.swc_base_plain_form.specs.PlainForm.{forms, holds_statements, is_string, literal, parts, respelled, respelled_in}
use Rattle.swc_base_plain_form.specs.Laws.{PlainFormAddsNoPlaces}
use Rattle.swc_base_plain_form.proofs.Forms.{parts_of_other, parts_of_string, plain_leaves, plain_of_list, plain_of_tree}
use Rattle.swc_base_plain_form.proofs.Kept.{child_of_list, child_of_tree, no_child_of_absent, no_child_of_text, of_some}

-- the second has each place of the first
abbrev Within : Node → Node → Type 0
Within u t = (p : Path) → IsTrue (is_some (node_at u p)) → IsTrue (is_some (node_at t p))

abbrev AllWithin : List Node → List Node → Type 0
AllWithin [] [] = Unit {0}
AllWithin (u ∷ us) (t ∷ ts) = Within u t × AllWithin us ts
AllWithin _ _ = ⊥

all_same : (us : List Node) → AllWithin us us
all_same [] = tt
all_same (u ∷ us) = (λ p h. h, all_same us)

-- the child of a number has another within which it stands
abbrev HasPartner : List Node → Node → ℕ → Type 0
HasPartner ts c n = (d : Node) × (slice_get ts n ≡ Some d) × Within c d

partner : (us ts : List Node) → AllWithin us ts → (n : ℕ) (c : Node) → slice_get us n ≡ Some c → HasPartner ts c n
partner [] [] h n c e = absurd (cc)
partner (u ∷ us) (t ∷ ts) h zero c e = (t, refl, subst (λ x. Within x t) (of_some u c e) h.0)
partner (u ∷ us) (t ∷ ts) h (suc n) c e = partner us ts h.1 n c e
partner [] (t ∷ ts) h n c e = absurd h
partner (u ∷ us) [] h n c e = absurd h

by_child : (u t : Node) → ((n : ℕ) (c : Node) → child u n ≡ Some c → (d : Node) × (child t n ≡ Some d) × Within c d) → Within u t
by_child u t all [] h = refl
by_child u t all (n ∷ p) h = at (λ c e. all n c e) (child u n) refl h
  where
    at : ((c : Node) → child u n ≡ Some c → (d : Node) × (child t n ≡ Some d) × Within c d) → (o : Option Node) → child u n ≡ o → IsTrue (is_some (given o None (λ c. node_at c p))) → IsTrue (is_some (given (child t n) None (λ c. node_at c p)))
    at rest None e h = absurd (cc)
    at rest (Some c) e h = let d = rest c e in subst (λ o. IsTrue (is_some (given o None (λ c. node_at c p)))) (sym d.1) (d.2 p h)

childless_within : (u : Node) → ((n : ℕ) (c : Node) → child u n ≡ Some c → ⊥) → (t : Node) → Within u t
childless_within u none t = by_child u t (λ n c e. absurd (none n c e))

many_within : (us ts : List Node) → AllWithin us ts → Within (Many us) (Many ts)
many_within us ts h = by_child (Many us) (Many ts) (λ n c e. let d = partner us ts h n c (sym (child_of_list us n) ∙ e) in (d.0, child_of_list ts n ∙ d.1, d.2))

tree_within : (k : Kind) (us ts : List Node) → AllWithin us ts → Within (Tree k us) (Tree k ts)
tree_within k us ts h = by_child (Tree k us) (Tree k ts) (λ n c e. let d = partner us ts h n c (sym (child_of_tree k us n) ∙ e) in (d.0, child_of_tree k ts n ∙ d.1, d.2))

text_within : (spell : List ℕ → List ℕ) (y : Node-F Node) (t : Node) → Within (respelled_in spell t y) t
text_within spell (Node-F.Text x) t = childless_within (Text (spell x)) (no_child_of_text (spell x)) t
text_within spell y t = λ p h. h

literal_within : (k : Kind) (us : List Node) → AllWithin (literal k us) us
literal_within kind.Str (a ∷ b ∷ c ∷ []) = (λ p h. h, (λ p h. h, (childless_within Absent no_child_of_absent c, tt)))
literal_within kind.Number (a ∷ b ∷ []) = (λ p h. h, (text_within plain_number (out-Node b) b, tt))
literal_within kind.BigInt (a ∷ b ∷ []) = (λ p h. h, (text_within plain_big (out-Node b) b, tt))
literal_within k us = all_same us

abbrev Stays : Node → Type 0
Stays t = (b : Bool) → Within ((forms t).plain b) t

parts_within : (lead within : Bool) (ts : List Node) → Each Stays ts → AllWithin (parts lead within (map forms ts)) ts
parts_within lead within [] e = tt
parts_within lead within (t ∷ ts) e = at (lead && is_string t) refl (parts_within true within ts e.1) (parts_within false within ts e.1)
  where
    at : (b : Bool) → (lead && is_string t) ≡ b → AllWithin (parts true within (map forms ts)) ts → AllWithin (parts false within (map forms ts)) ts → AllWithin (parts lead within (forms t ∷ map forms ts)) (t ∷ ts)
    at true h one other = subst (λ us. AllWithin us (t ∷ ts)) (sym (parts_of_string lead within t (map forms ts) h)) (λ p f. f, one)
    at false h one other = subst (λ us. AllWithin us (t ∷ ts)) (sym (parts_of_other lead within t (map forms ts) h)) (e.0 within, other)

leaf_stays : (t : Node) → has_parts t ≡ false → Stays t
leaf_stays t e b = subst (λ u. Within u t) (sym (plain_leaves b t e)) (λ p h. h)

stays : (t : Node) → Stays t
stays = by_children Stays
    (leaf_stays _ (search (rules, the_lemmas)), (λ x. leaf_stays _ (search (rules, the_lemmas))), (λ w. leaf_stays _ (search (rules, the_lemmas))), (λ x. leaf_stays _ (search (rules, the_lemmas))), (λ s. leaf_stays _ (search (rules, the_lemmas))), (λ k i. leaf_stays _ (search (rules, the_lemmas))))
    (λ ts e b. subst (λ u. Within u (Many ts)) (sym (plain_of_list b ts)) (many_within (parts b false (map forms ts)) ts (parts_within b false ts e)))
    (λ k ts e b. subst (λ u. Within u (Tree k ts)) (sym (plain_of_tree b k ts))
    (λ p h. tree_within k (parts false (holds_statements b k) (map forms ts)) ts (parts_within false (holds_statements b k) ts e) p
    (tree_within k (literal k (parts false (holds_statements b k) (map forms ts))) (parts false (holds_statements b k) (map forms ts)) (literal_within k (parts false (holds_statements b k) (map forms ts))) p h)))

pub no_places : PlainFormAddsNoPlaces
no_places t p h = stays t false p h
