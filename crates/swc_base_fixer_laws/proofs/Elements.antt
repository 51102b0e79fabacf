-- Elements of patterns and parameters stay such where pairs are set in them.
use Rattle.std.proofs.Common.{◌≡◌, true, false, IsTrue, List, [], ◌∷◌, refl, sym, ap, ◌∙◌, rules, true≢false}
use Rattle.swc_tree_marks.specs.declared.span.Span.{Span as Range}
use Rattle.swc_tree_node.specs.declared.kind.Kind.{Kind}
use Rattle.swc_tree_node.specs.declared.kind.Kind.TheVariants as kind
use Rattle.swc_tree_node.specs.declared.kind.Class.TheVariants as class
use Rattle.swc_tree_node.specs.declared.slot.Content.TheVariants as content
use Rattle.swc_tree_node.specs.declared.slot.Slot.{Slot}
use Rattle.swc_tree_node.specs.declared.slot.Slot.TheVariants as slot
use Rattle.swc_tree_node.specs.declared.node.Node.{Node, Absent, Flag, Word, Text, Span, List as Many, Identifier, Tree, the_lemmas}
use Rattle.swc_tree_node.specs.declared.node.Node.TheOpen.{Node-F}
use Rattle.swc_tree_node.specs.Table.{slots_of}
use Rattle.swc_tree_grammar.specs.Shapes.{items_of}
use Rattle.swc_tree_grammar.specs.Kinds.{has_kind, is_rest}
use Rattle.swc_tree_grammar.specs.Writable.{Round, element, pattern_of, pattern_of_param_in, is_element, elements}
use Rattle.swc_tree_grammar.proofs.Induction.{by_children}
use Rattle.swc_base_fixer_laws.specs.Sets.{Sets, AllSet, FieldsSet, takes_pair, pairable, can_pair, item, is_directive_in}
use Rattle.swc_base_fixer_laws.specs.Sets.Sets.{same, after, around, named, items, tree}
use Rattle.swc_base_fixer_laws.specs.Sets.AllSet.{none, more}
use Rattle.swc_base_fixer_laws.specs.Sets.FieldsSet.{nil, field}
use Rattle.swc_base_fixer_laws.proofs.Up.{up, no_pair, kind_of_tree}
use Rattle.swc_base_fixer_laws.proofs.ElseKept.{pairable_tree}
use Rattle.swc_base_fixer_laws.proofs.Looks.{is_head, element_kept, property_kept}

-- of a parameter its pattern is looked at
pattern_tree : (k : Kind) (ts : List Node) → pattern_of (Tree k ts) ≡ pattern_of_param_in (Tree k ts) (Node-F.Tree k ts)
pattern_tree k ts = search (rules, the_lemmas)

pattern_list : (ts : List Node) → pattern_of (Many ts) ≡ Many ts
pattern_list ts = search (rules, the_lemmas)

own_row : (k : Kind) (ts : List Node) → can_pair k ≡ true → pattern_of_param_in (Tree k ts) (Node-F.Tree k ts) ≡ Tree k ts
own_row kind.Param ts h = absurd (true≢false (sym h))
own_row k ts h = refl

own_pattern : (t : Node) → IsTrue (pairable t) → pattern_of t ≡ t
own_pattern t = by_children (λ t. IsTrue (pairable t) → pattern_of t ≡ t)
    (no_pair Absent (search (rules, the_lemmas)), λ x. no_pair (Flag x) (search (rules, the_lemmas)), λ w. no_pair (Word w) (search (rules, the_lemmas)), λ x. no_pair (Text x) (search (rules, the_lemmas)), λ s. no_pair (Span s) (search (rules, the_lemmas)), λ k i. no_pair (Identifier k i) (search (rules, the_lemmas)))
    (λ ts l. no_pair (Many ts) (search (rules, the_lemmas)))
    (λ k ts l h. pattern_tree k ts ∙ own_row k ts (sym (pairable_tree k ts) ∙ h)) t

rest_row : (k : Kind) → can_pair k ≡ true → is_rest k ≡ false
rest_row kind.RestPat h = absurd (true≢false (sym h))
rest_row k h = refl

no_rest : (t : Node) → IsTrue (pairable t) → has_kind is_rest t ≡ false
no_rest t = by_children (λ t. IsTrue (pairable t) → has_kind is_rest t ≡ false)
    (no_pair Absent (search (rules, the_lemmas)), λ x. no_pair (Flag x) (search (rules, the_lemmas)), λ w. no_pair (Word w) (search (rules, the_lemmas)), λ x. no_pair (Text x) (search (rules, the_lemmas)), λ s. no_pair (Span s) (search (rules, the_lemmas)), λ k i. no_pair (Identifier k i) (search (rules, the_lemmas)))
    (λ ts l. no_pair (Many ts) (search (rules, the_lemmas)))
    (λ k ts l h. kind_of_tree is_rest k ts ∙ rest_row k (sym (pairable_tree k ts) ∙ h)) t

-- how the pattern of an element looks
pub rest_kept : {s : Slot} {t u : Node} → Sets s t u → is_head s ≡ false → has_kind is_rest u ≡ has_kind is_rest t
rest_kept (same t) h = refl
rest_kept (after c d) h = rest_kept d h ∙ rest_kept c h
rest_kept (around r t u p q d) h = kind_of_tree is_rest kind.ParenExpr (Span r ∷ u ∷ []) ∙ sym (no_rest t q)
rest_kept (named r k i called) h = absurd (cc)
rest_kept (items ts us d) h = search (rules, the_lemmas)
rest_kept (tree k ts us e d) h = kind_of_tree is_rest k us ∙ sym (kind_of_tree is_rest k ts)

record Looks (t u : Node) : Type 0 where
  is_a_rest : has_kind is_rest u ≡ has_kind is_rest t
  is_an_element : (r : Round) → element u r ≡ element t r

looks_of : {s : Slot} {t u : Node} → Sets s t u → is_head s ≡ false → Looks t u
looks_of d h = record { is_a_rest = rest_kept d h; is_an_element = λ r. element_kept d h r }

by_own : (t u v w : Node) → v ≡ t → w ≡ u → Looks t u → Looks v w
by_own t u v w e f l = rw (e, f) l

row : {s : Slot} (k : Kind) {ts us : List Node} → Sets s (Tree k ts) (Tree k us) → is_head s ≡ false → FieldsSet (slots_of k) ts us → Looks (pattern_of_param_in (Tree k ts) (Node-F.Tree k ts)) (pattern_of_param_in (Tree k us) (Node-F.Tree k us))
row kind.Param c h (field a (field b nil)) = looks_of b refl
row k c h d = looks_of c h

pair_element : (s : Slot) (x : Range) (t u : Node) → IsTrue (takes_pair s) → IsTrue (pairable t) → Sets (slot.One (content.Node class.Expr)) t u → is_head s ≡ false → (r : Round) → element (Tree kind.ParenExpr (Span x ∷ u ∷ [])) r ≡ element t r
pair_element s x t u p q d h r = element_kept (around {s = s} x t u p q d) h r

list_looks : (s : Slot) (ts us : List Node) → AllSet (item s) ts us → is_head s ≡ false → Looks (Many ts) (Many us)
list_looks s ts us d h = looks_of (items {s = s} ts us d) h

tree_looks : (s : Slot) (k : Kind) (ts us : List Node) → is_directive_in (Node-F.Tree k us) ≡ is_directive_in (Node-F.Tree k ts) → FieldsSet (slots_of k) ts us → is_head s ≡ false → Looks (pattern_of_param_in (Tree k ts) (Node-F.Tree k ts)) (pattern_of_param_in (Tree k us) (Node-F.Tree k us))
tree_looks s k ts us e d h = row k (tree {s = s} k ts us e d) h d

pattern_looks : {s : Slot} {t u : Node} → Sets s t u → is_head s ≡ false → Looks (pattern_of t) (pattern_of u)
pattern_looks (same t) h = record { is_a_rest = refl; is_an_element = λ r. refl }
pattern_looks (after c d) h = let x = pattern_looks c h in let y = pattern_looks d h in record { is_a_rest = y.is_a_rest ∙ x.is_a_rest; is_an_element = λ r. y.is_an_element r ∙ x.is_an_element r }
pattern_looks {s = s} (around r t u p q d) h =
    by_own t (Tree kind.ParenExpr (Span r ∷ u ∷ [])) (pattern_of t) (pattern_of (Tree kind.ParenExpr (Span r ∷ u ∷ []))) (own_pattern t q) (pattern_tree kind.ParenExpr (Span r ∷ u ∷ []))
    (record { is_a_rest = kind_of_tree is_rest kind.ParenExpr (Span r ∷ u ∷ []) ∙ sym (no_rest t q); is_an_element = λ r'. pair_element s r t u p q d h r' })
pattern_looks (named r k i called) h = absurd (cc)
pattern_looks {s = s} (items ts us d) h = by_own (Many ts) (Many us) (pattern_of (Many ts)) (pattern_of (Many us)) (pattern_list ts) (pattern_list us) (list_looks s ts us d h)
pattern_looks {s = s} (tree k ts us e d) h =
    by_own (pattern_of_param_in (Tree k ts) (Node-F.Tree k ts)) (pattern_of_param_in (Tree k us) (Node-F.Tree k us)) (pattern_of (Tree k ts)) (pattern_of (Tree k us)) (pattern_tree k ts) (pattern_tree k us) (tree_looks s k ts us e d h)

pub rests : {s : Slot} {t u : Node} → Sets s t u → is_head s ≡ false → has_kind is_rest (pattern_of u) ≡ has_kind is_rest (pattern_of t)
rests d h = let l = pattern_looks d h in l.is_a_rest

pub is_element_kept : {s : Slot} {t u : Node} → Sets s t u → is_head s ≡ false → (r : Round) → is_element r u ≡ is_element r t
is_element_kept d h r = let l = pattern_looks d h in let w = up d in rw (w.absent, property_kept d h, l.is_an_element r) refl

pub elements_kept : {s : Slot} {ts us : List Node} → AllSet s ts us → is_head s ≡ false → (r : Round) → elements r us ≡ elements r ts
elements_kept none h r = refl
elements_kept (more c none) h r = rw (rests c h, is_element_kept c h r) refl
elements_kept (more c (more d x)) h r = rw (is_element_kept c h r, elements_kept (more d x) h r) refl

-- the items of a list
items_many : (ts : List Node) → items_of (Many ts) ≡ ts
items_many ts = search (rules, the_lemmas)

no_items : (k : Kind) (ts : List Node) → items_of (Tree k ts) ≡ []
no_items k ts = search (rules, the_lemmas)

-- what is said of the items of what stands in a list's place
pub of_items : {s : Slot} {t u : Node} (X : Type 0) (f : List Node → X) → ((ts us : List Node) → AllSet (item s) ts us → f us ≡ f ts) → takes_pair s ≡ false → is_head s ≡ false → Sets s t u → f (items_of u) ≡ f (items_of t)
of_items X f g p h (same t) = refl
of_items X f g p h (after c d) = of_items X f g p h d ∙ of_items X f g p h c
of_items X f g p h (around r t u a b d) = absurd (cc (sym p ∙ a))
of_items X f g p h (named r k i called) = absurd (cc)
of_items X f g p h (items ts us d) = ap f (items_many us) ∙ g ts us d ∙ sym (ap f (items_many ts))
of_items X f g p h (tree k ts us e d) = ap f (no_items k us) ∙ sym (ap f (no_items k ts))
