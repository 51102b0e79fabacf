-- What `levelled` says at each form of a node.
use Rattle.std.proofs.Common.{◌≡◌, Bool, true, false, not, ◌&&◌, IsTrue, List, [], ◌∷◌, map, refl, sym, ap, ◌∙◌, rules}
use Rattle.std.specs.List.{list_all}
use Rattle.swc_tree_marks.specs.declared.span.Span.{Span as Range}
use Rattle.swc_tree_node.specs.declared.kind.Kind.{Kind}
use Rattle.swc_tree_node.specs.declared.kind.Kind.TheVariants as kind
use Rattle.swc_tree_node.specs.declared.node.Node.{Node, Span, List as Many, Tree, fold-Node, the_lemmas}
use Rattle.swc_tree_node.specs.declared.node.Node.TheOpen.{Node-F}
use Rattle.swc_tree_grammar.specs.Kinds.{is_opt_chain, is_chain}
use Rattle.swc_tree_grammar.specs.Blocks.{span_of}
use Rattle.swc_tree_grammar.specs.Demands.{demands, meets}
use Rattle.swc_tree_grammar.specs.Demands.Demand.{Operand, Link}
use Rattle.swc_tree_grammar.specs.Due.{Places, pair, pair_if}
use Rattle.swc_tree_grammar.proofs.Induction.{by_children}
use Rattle.swc_tree_grammar.proofs.Wholes.{all_carried}
use Rattle.swc_tree_grammar_laws.specs.Levelled.{Levelled, levelled_step, levelled, each_meets}

abbrev judged : Node → Levelled
judged = fold-Node Levelled levelled_step

all_whole : (ts : List Node) → map (λ e. e.whole) (map judged ts) ≡ ts
all_whole ts = all_carried Levelled levelled_step (λ e. e.whole) (λ x. refl) ts

each_holds : (c : Bool) (ts : List Node) → list_all (λ e. e.holds c) (map judged ts) ≡ list_all (λ t. levelled t c) ts
each_holds c [] = refl
each_holds c (t ∷ ts) = ap (λ b. levelled t c && b) (each_holds c ts)

judged_tree : (k : Kind) (ts : List Node) → judged (Tree k ts) ≡ levelled_step (Node-F.Tree k (map judged ts))
judged_tree k ts = search (rules, the_lemmas)

holds_tree : (k : Kind) (ts : List Node) (b : Bool) → levelled (Tree k ts) b
    ≡ (each_meets (demands b (Node-F.Tree k (map (λ e. e.whole) (map judged ts)))) (map (λ e. e.whole) (map judged ts)) && list_all (λ e. e.holds (is_opt_chain k)) (map judged ts))
holds_tree k ts b = ap (λ e. e.holds b) (judged_tree k ts)

pub levelled_tree : (k : Kind) (ts : List Node) (b : Bool) → levelled (Tree k ts) b ≡ (each_meets (demands b (Node-F.Tree k ts)) ts && list_all (λ t. levelled t (is_opt_chain k)) ts)
levelled_tree k ts b = holds_tree k ts b ∙ rw (all_whole ts, each_holds (is_opt_chain k) ts) refl

holds_list : (ts : List Node) (b : Bool) → levelled (Many ts) b ≡ (true && list_all (λ e. e.holds false) (map judged ts))
holds_list ts b = search (rules, the_lemmas)

pub levelled_list : (ts : List Node) (b : Bool) → levelled (Many ts) b ≡ list_all (λ t. levelled t false) ts
levelled_list ts b = holds_list ts b ∙ each_holds false ts

abbrev pub fine : Node → Bool
fine t = levelled t false

abbrev pub Fine : Node → Type 0
Fine t = IsTrue (fine t)

abbrev pub AllFine : List Node → Type 0
AllFine ts = IsTrue (list_all fine ts)

pub both : (a b : Bool) → (a && b) ≡ true → (a ≡ true) × (b ≡ true)
both true b h = (refl, h)
both false b h = absurd (cc)

pub half : {a b : Bool} → (a && b) ≡ true → (a ≡ true) × (b ≡ true)
half {a = a} {b = b} h = both a b h

pub also_both : (a b : Bool) → a ≡ true → b ≡ true → (a && b) ≡ true
also_both a b h g = rw h g

pub also : {a b : Bool} → a ≡ true → b ≡ true → (a && b) ≡ true
also {a = a} {b = b} h g = also_both a b h g

-- a pair
span_fine : (s : Range) (c : Bool) → levelled (Span s) c ≡ true
span_fine s c = search (rules, the_lemmas)

and_true : (b : Bool) → (b && true) ≡ b
and_true true = refl
and_true false = refl

pub fine_pair : (p : Places) (e : Node) (c : Bool) → levelled (pair p e) c ≡ fine e
fine_pair p e c = levelled_tree kind.ParenExpr (Span (p (span_of e)) ∷ e ∷ []) c ∙ rw (span_fine (p (span_of e)) false) (and_true (fine e))

pub fine_if : (b : Bool) (p : Places) (e : Node) → fine (pair_if b p e) ≡ fine e
fine_if true p e = fine_pair p e false
fine_if false p e = refl

-- as the base of a chain a member may have a chain as its object
weaker_in : (k : Kind) (ts : List Node) → IsTrue (each_meets (demands false (Node-F.Tree k ts)) ts) → IsTrue (each_meets (demands true (Node-F.Tree k ts)) ts)
weaker_in kind.MemberExpr (s ∷ o ∷ m ∷ []) h = also_both (meets Link o) true (both (not (is_chain o)) (meets Link o) (both (meets Operand o) true h).0).1 refl
weaker_in k ts h = h

weaker : (t : Node) → Fine t → IsTrue (levelled t true)
weaker t = by_children (λ t. Fine t → IsTrue (levelled t true))
    (λ h. search (rules, the_lemmas), λ x h. search (rules, the_lemmas), λ w h. search (rules, the_lemmas), λ x h. search (rules, the_lemmas), λ s h. search (rules, the_lemmas), λ k i h. search (rules, the_lemmas))
    (λ ts l h. levelled_list ts true ∙ sym (levelled_list ts false) ∙ h)
    (λ k ts l h. (let q = half (sym (levelled_tree k ts false) ∙ h) in levelled_tree k ts true ∙ also (weaker_in k ts q.0) q.1)) t

pub weaker_if : (c : Bool) (t : Node) → Fine t → IsTrue (levelled t c)
weaker_if true t h = weaker t h
weaker_if false t h = h

pub all_weaker : (c : Bool) (ts : List Node) → AllFine ts → IsTrue (list_all (λ t. levelled t c) ts)
all_weaker c [] h = refl
all_weaker c (t ∷ ts) h = let q = half h in also (weaker_if c t q.0) (all_weaker c ts q.1)
