-- No sequence stands among the parts of what is stripped.
use Rattle.std.proofs.Common.{◌≡◌, ℕ, zero, suc, Bool, true, false, List, [], ◌∷◌, ◌++◌, map, refl, sym, ap, ◌∙◌, subst, rules}
use Rattle.std.specs.List.{filter, flat_map}
use Rattle.swc_tree_node.specs.declared.kind.Kind.{Kind}
use Rattle.swc_tree_node.specs.declared.kind.Kind.TheVariants as kind
use Rattle.swc_tree_node.specs.declared.node.Node.{Node, Absent, Flag, Word, Text, Span, List as Many, Identifier, Tree, the_lemmas}
use Rattle.swc_tree_node.specs.declared.node.Node.TheVariants.{rolls-Tree}
use Rattle.swc_tree_node.specs.declared.node.Node.TheOpen.{Node-F}
use Rattle.swc_tree_grammar.specs.Shapes.{items_of}
use Rattle.swc_tree_grammar.specs.Stripped.{busy, effects, end, front, is_member, is_void, parts, parts_in, sequence, settled, strip_step, stripped, target}
use Rattle.swc_tree_grammar.proofs.Induction.{Each, by_children}
use Rattle.swc_tree_grammar.proofs.Items.{items_of_list}
use Rattle.swc_tree_grammar.proofs.Stripped.{effects_of_absent, effects_of_flag, effects_of_identifier, effects_of_list, effects_of_other, effects_of_sequence, effects_of_span, effects_of_text, effects_of_tree, effects_of_void, effects_of_word, stripped_of_list, stripped_of_tree}
use Rattle.swc_base_fixer_unparen.proofs.Busy.{each_behind, each_busy}

pub parts_of_tree : (k : Kind) (ts : List Node) → parts (Tree k ts) ≡ parts_in (Tree k ts) (Node-F.Tree k ts)
parts_of_tree k ts = search (rules, the_lemmas)

items_of_tree : (k : Kind) (ts : List Node) → items_of (Tree k ts) ≡ []
items_of_tree k ts = search (rules, the_lemmas)

-- ---- what is left where a value is dropped: no list, no sequence, no `void`

abbrev pub Plain : Node → Type 0
Plain v = (effects v ≡ v ∷ []) × (parts v ≡ v ∷ []) × (items_of v ≡ [])

abbrev Left : Node → Type 0
Left t = Each Plain (effects t)

alone : (t : Node) → effects t ≡ t ∷ [] → parts t ≡ t ∷ [] → items_of t ≡ [] → Left t
alone t e p i = subst (Each Plain) (sym e) ((e, p, i), tt)

each_left : (ts : List Node) → Each Left ts → Each Plain (flat_map effects ts)
each_left [] l = tt
each_left (t ∷ ts) l = each_behind Plain (effects t) (flat_map effects ts) l.0 (each_left ts l.1)

void_left : (b : Bool) (span op arg : Node) → is_void op ≡ b → Left arg → Left (Tree kind.UnaryExpr (span ∷ op ∷ arg ∷ []))
void_left true span op arg e l = subst (Each Plain) (sym (effects_of_void span op arg e)) l
void_left false span op arg e l =
    alone (Tree kind.UnaryExpr (span ∷ op ∷ arg ∷ [])) (effects_of_other span op arg e) (parts_of_tree kind.UnaryExpr (span ∷ op ∷ arg ∷ [])) (items_of_tree kind.UnaryExpr (span ∷ op ∷ arg ∷ []))

tree_left : (k : Kind) (ts : List Node) → Each Left ts → Left (Tree k ts)
tree_left kind.SeqExpr (span ∷ exprs ∷ []) l = subst (Each Plain) (sym (effects_of_sequence span exprs)) l.1.0
tree_left kind.UnaryExpr (span ∷ op ∷ arg ∷ []) l = void_left (is_void op) span op arg refl l.1.1.0
tree_left k ts l = alone (Tree k ts) (effects_of_tree k ts) (parts_of_tree k ts) (items_of_tree k ts)

left : (t : Node) → Left t
left t = by_children Left (
  alone Absent effects_of_absent (search (rules, the_lemmas)) (search (rules, the_lemmas)),
  λ x. alone (Flag x) (effects_of_flag x) (search (rules, the_lemmas)) (search (rules, the_lemmas)),
  λ w. alone (Word w) (effects_of_word w) (search (rules, the_lemmas)) (search (rules, the_lemmas)),
  λ x. alone (Text x) (effects_of_text x) (search (rules, the_lemmas)) (search (rules, the_lemmas)),
  λ s. alone (Span s) (effects_of_span s) (search (rules, the_lemmas)) (search (rules, the_lemmas)),
  λ k i. alone (Identifier k i) (effects_of_identifier k i) (search (rules, the_lemmas)) (search (rules, the_lemmas)),
)
    (λ ts l. subst (Each Plain) (sym (effects_of_list ts)) (each_left ts l))
    tree_left t

pub all_left : (ts : List Node) → Each Plain (flat_map effects ts)
all_left [] = tt
all_left (t ∷ ts) = each_behind Plain (effects t) (flat_map effects ts) (left t) (all_left ts)

pub effects_again : (ts : List Node) → Each Plain ts → flat_map effects ts ≡ ts
effects_again [] h = refl
effects_again (t ∷ ts) h = ap (λ l. l ++ flat_map effects ts) h.0.0 ∙ ap (λ l. t ∷ l) (effects_again ts h.1)

-- ---- a node that is no sequence, and so on in lists, as deep as is asked

abbrev Flat : (Node → Type 0) → Node → Type 0
Flat P v = (parts v ≡ v ∷ []) × Each P (items_of v)

abbrev Deep : ℕ → Node → Type 0
Deep zero t = Unit {0}
Deep (suc n) t = Each (Flat (Deep n)) (parts t)

each_plain : (P : Node → Type 0) (ts : List Node) → Each Plain ts → Each (Flat P) ts
each_plain P [] h = tt
each_plain P (t ∷ ts) h = ((h.0.1, subst (Each P) (sym h.0.2) tt), each_plain P ts h.1)

each_end : (P : Node → Type 0) (ts : List Node) → Each P ts → Each P (end ts)
each_end P [] h = tt
each_end P (t ∷ []) h = h
each_end P (t ∷ u ∷ ts) h = each_end P (u ∷ ts) h.1

settled_flat : (P : Node → Type 0) (ts : List Node) → Each (Flat P) ts → Each (Flat P) (settled ts)
settled_flat P ts h = each_behind (Flat P) (busy (flat_map effects (front ts))) (end ts)
    (each_busy (Flat P) (flat_map effects (front ts)) (each_plain P (flat_map effects (front ts)) (all_left (front ts)))) (each_end (Flat P) ts h)

whole_items : (span : Node) (ts : List Node) → parts (Tree kind.SeqExpr (span ∷ Many ts ∷ [])) ≡ ts
whole_items span ts = parts_of_tree kind.SeqExpr (span ∷ Many ts ∷ []) ∙ items_of_list ts

parts_settled : (P : Node → Type 0) (span : Node) (ts : List Node) → Each (Flat P) ts → parts (sequence span ts) ≡ ts
parts_settled P span [] h = whole_items span []
parts_settled P span (t ∷ []) h = h.0.0
parts_settled P span (t ∷ u ∷ ts) h = whole_items span (t ∷ u ∷ ts)

each_flat : (n : ℕ) (ts : List Node) → Each (Deep (suc n)) ts → Each (Flat (Deep n)) (flat_map parts ts)
each_flat n [] h = tt
each_flat n (t ∷ ts) h = each_behind (Flat (Deep n)) (parts t) (flat_map parts ts) h.0 (each_flat n ts h.1)

items_deep : (P : Node → Type 0) (t : Node) → Each (Flat P) (parts t) → Each P (items_of t)
items_deep P t = by_children (λ t. Each (Flat P) (parts t) → Each P (items_of t)) (
  λ h. (let e : items_of Absent ≡ [] = search (rules, the_lemmas) in subst (Each P) (sym e) tt),
  λ x h. (let e : items_of (Flag x) ≡ [] = search (rules, the_lemmas) in subst (Each P) (sym e) tt),
  λ w h. (let e : items_of (Word w) ≡ [] = search (rules, the_lemmas) in subst (Each P) (sym e) tt),
  λ x h. (let e : items_of (Text x) ≡ [] = search (rules, the_lemmas) in subst (Each P) (sym e) tt),
  λ s h. (let e : items_of (Span s) ≡ [] = search (rules, the_lemmas) in subst (Each P) (sym e) tt),
  λ k i h. (let e : items_of (Identifier k i) ≡ [] = search (rules, the_lemmas) in subst (Each P) (sym e) tt),
)
    (λ ts l h. (let e : parts (Many ts) ≡ Many ts ∷ [] = search (rules, the_lemmas) in let g = subst (Each (Flat P)) e h in g.0.1))
    (λ k ts l h. subst (Each P) (sym (items_of_tree k ts)) tt) t

abbrev Stripped : Node → Type 0
Stripped t = (n : ℕ) → Deep n (stripped t)

each_stripped : (ts : List Node) → Each Stripped ts → (n : ℕ) → Each (Deep n) (map stripped ts)
each_stripped [] l n = tt
each_stripped (t ∷ ts) l n = (l.0 n, each_stripped ts l.1 n)

one_node : (n : ℕ) (t : Node) → parts t ≡ t ∷ [] → items_of t ≡ [] → Deep (suc n) t
one_node n t p i = subst (Each (Flat (Deep n))) (sym p) ((p, subst (Each (Deep n)) (sym i) tt), tt)

-- the items of a sequence, flat
gathered_flat : (exprs : Node) → Stripped exprs → (n : ℕ) → Each (Flat (Deep n)) (settled (flat_map parts (items_of (stripped exprs))))
gathered_flat exprs l n = settled_flat (Deep n) (flat_map parts (items_of (stripped exprs))) (each_flat n (items_of (stripped exprs)) (items_deep (Deep (suc n)) (stripped exprs) (l (suc (suc n)))))

step_deep : (k : Kind) (ts : List Node) → Each Stripped ts → (n : ℕ) → Deep (suc n) (strip_step (Node-F.Tree k (map stripped ts)))
step_deep kind.ParenExpr (span ∷ expr ∷ []) l n = l.1.0 (suc n)
step_deep kind.SeqExpr (span ∷ exprs ∷ []) l n =
    subst (Each (Flat (Deep n))) (sym (parts_settled (Deep n) (stripped span) (settled (flat_map parts (items_of (stripped exprs)))) (gathered_flat exprs l.1.0 n))) (gathered_flat exprs l.1.0 n)
step_deep kind.AssignExpr (span ∷ op ∷ a ∷ b ∷ []) l n =
    one_node n (Tree kind.AssignExpr (stripped span ∷ stripped op ∷ target (stripped a) ∷ stripped b ∷ [])) (parts_of_tree kind.AssignExpr (stripped span ∷ stripped op ∷ target (stripped a) ∷ stripped b ∷ []))
    (items_of_tree kind.AssignExpr (stripped span ∷ stripped op ∷ target (stripped a) ∷ stripped b ∷ []))
step_deep kind.Class (span ∷ parent ∷ body ∷ []) l n =
    one_node n (Tree kind.Class (stripped span ∷ stripped parent ∷ Many (filter is_member (items_of (stripped body))) ∷ []))
    (parts_of_tree kind.Class (stripped span ∷ stripped parent ∷ Many (filter is_member (items_of (stripped body))) ∷ []))
    (items_of_tree kind.Class (stripped span ∷ stripped parent ∷ Many (filter is_member (items_of (stripped body))) ∷ []))
step_deep k ts l n = subst (Deep (suc n)) (sym (rolls-Tree k (map stripped ts))) (one_node n (Tree k (map stripped ts)) (parts_of_tree k (map stripped ts)) (items_of_tree k (map stripped ts)))

tree_deep : (k : Kind) (ts : List Node) → Each Stripped ts → Stripped (Tree k ts)
tree_deep k ts l zero = tt
tree_deep k ts l (suc n) = subst (Deep (suc n)) (sym (stripped_of_tree k ts)) (step_deep k ts l n)

leaf_deep : (t : Node) → stripped t ≡ t → parts t ≡ t ∷ [] → items_of t ≡ [] → Stripped t
leaf_deep t s p i zero = tt
leaf_deep t s p i (suc n) = subst (Deep (suc n)) (sym s) (one_node n t p i)

list_deep : (ts : List Node) → Each Stripped ts → Stripped (Many ts)
list_deep ts l zero = tt
list_deep ts l (suc n) =
    let us = map stripped ts in
    let p : parts (Many us) ≡ Many us ∷ [] = search (rules, the_lemmas) in
    subst (Deep (suc n)) (sym (stripped_of_list ts)) (subst (Each (Flat (Deep n))) (sym p) ((p, subst (Each (Deep n)) (sym (items_of_list us)) (each_stripped ts l n)), tt))

pub deep : (t : Node) (n : ℕ) → Deep n (stripped t)
deep t = by_children Stripped (
  leaf_deep Absent (search (rules, the_lemmas)) (search (rules, the_lemmas)) (search (rules, the_lemmas)),
  λ x. leaf_deep (Flag x) (search (rules, the_lemmas)) (search (rules, the_lemmas)) (search (rules, the_lemmas)),
  λ w. leaf_deep (Word w) (search (rules, the_lemmas)) (search (rules, the_lemmas)) (search (rules, the_lemmas)),
  λ x. leaf_deep (Text x) (search (rules, the_lemmas)) (search (rules, the_lemmas)) (search (rules, the_lemmas)),
  λ s. leaf_deep (Span s) (search (rules, the_lemmas)) (search (rules, the_lemmas)) (search (rules, the_lemmas)),
  λ k i. leaf_deep (Identifier k i) (search (rules, the_lemmas)) (search (rules, the_lemmas)) (search (rules, the_lemmas)),
) list_deep tree_deep t

-- the parts of a stripped sequence are what it was settled to
pub parts_of_sequence : (span exprs : Node) → parts (stripped (Tree kind.SeqExpr (span ∷ exprs ∷ []))) ≡ settled (flat_map parts (items_of (stripped exprs)))
parts_of_sequence span exprs =
    ap parts (stripped_of_tree kind.SeqExpr (span ∷ exprs ∷ []))
    ∙ parts_settled (Deep zero) (stripped span) (settled (flat_map parts (items_of (stripped exprs)))) (gathered_flat exprs (deep exprs) zero)
