-- What a node keeps where pairs are set in it or round it: all that its place may ask of it.
use Rattle.std.proofs.Common.{◌≡◌, ℕ, Bool, true, false, not, ◌&&◌, ◌||◌, IsTrue, List, [], ◌∷◌, map, refl, sym, ap, ◌∙◌, rules, arith, ◌≤◌}
use Rattle.std.specs.Prelude.{nat_le, if◌then◌else◌, None}
use Rattle.std.specs.List.{list_all}
use Rattle.std.proofs.lemmas.Bool.{leb-true, le-leb}
use Rattle.swc_tree_marks.specs.declared.span.Span.{Span as Range}
use Rattle.swc_tree_marks.specs.declared.ident.Ident.{Ident}
use Rattle.swc_tree_node.specs.declared.kind.Kind.{Kind}
use Rattle.swc_tree_node.specs.declared.kind.Kind.TheVariants as kind
use Rattle.swc_tree_node.specs.declared.node.Node.{Node, Absent, Flag, Word, Text, Span, List as Many, Identifier, Tree, the_lemmas}
use Rattle.swc_tree_node.specs.declared.node.Node.TheOpen.{Node-F}
use Rattle.swc_tree_grammar.specs.Shapes.{items_of}
use Rattle.swc_tree_grammar.specs.Kinds.{has_kind, is_chain, is_block, is_opt_chain}
use Rattle.swc_tree_grammar.specs.Levels.{level_in, word_of, is_absent, is_called, called_step}
use Rattle.swc_tree_grammar.specs.Demands.{Demand, meets, at_least, is_bare_new, bare_new_in, is_nullish, nullish_in, nullish_word, key_in}
use Rattle.swc_tree_grammar.specs.Demands.Demand.{Any, AtLeast, Each as EachOf, Key, Body, Operand, Link, NewCallee, OrSide, NullishSide}
use Rattle.swc_tree_grammar.specs.Grammar.{is_async_name}
use Rattle.swc_tree_grammar.specs.Forms.{holds as is_set}
use Rattle.swc_tree_grammar.proofs.Induction.{by_children}
use Rattle.swc_tree_grammar_laws.proofs.Levelled.{both, also_both}
use Rattle.swc_tree_grammar_laws.proofs.Begins.{or_right}
use Rattle.swc_tree_grammar_laws.proofs.Settled.{is_met_by_pairs}
use Rattle.swc_base_fixer_laws.specs.Sets.{pairable, Sets, AllSet, FieldsSet}
use Rattle.swc_base_fixer_laws.specs.Sets.Sets.{same, after, around, named, items, tree}
use Rattle.swc_base_fixer_laws.specs.Sets.AllSet.{none, more}
use Rattle.swc_base_fixer_laws.specs.Sets.FieldsSet.{nil as no_field, field}
use Rattle.swc_tree_node.specs.declared.slot.Slot.{Slot}

pub record Up (t u : Node) : Type 0 where
  pub met : (d : Demand) → is_met_by_pairs d ≡ true → meets d t ≡ true → meets d u ≡ true
  pub called : is_called t ≡ false → is_called u ≡ false
  pub async : is_async_name t ≡ false → is_async_name u ≡ false
  pub word_same : word_of u ≡ word_of t
  pub absent : is_absent u ≡ is_absent t
  pub flag : is_set u ≡ is_set t

pub data AllUp : List Node → List Node → Type 0 where
  nil : AllUp [] []
  cons : {t u : Node} {ts us : List Node} → Up t u → AllUp ts us → AllUp (t ∷ ts) (u ∷ us)

pub up_same : (t : Node) → Up t t
up_same t = record { met = λ d m h. h; called = λ h. h; async = λ h. h; word_same = refl; absent = refl; flag = refl }

pub all_up_same : (ts : List Node) → AllUp ts ts
all_up_same [] = nil
all_up_same (t ∷ ts) = cons (up_same t) (all_up_same ts)

up_then : {t u v : Node} → Up t u → Up u v → Up t v
up_then c d = record {
  met = λ x m h. d.met x m (c.met x m h);
  called = λ h. d.called (c.called h);
  async = λ h. d.async (c.async h);
  word_same = d.word_same ∙ c.word_same;
  absent = d.absent ∙ c.absent;
  flag = d.flag ∙ c.flag;
}

-- what a pair is set round
record Paired (t : Node) : Type 0 where
  no_word : word_of t ≡ None
  not_absent : is_absent t ≡ false
  no_flag : is_set t ≡ false

word_of_tree : (k : Kind) (ts : List Node) → word_of (Tree k ts) ≡ None
word_of_tree k ts = search (rules, the_lemmas)

absent_of_tree : (k : Kind) (ts : List Node) → is_absent (Tree k ts) ≡ false
absent_of_tree k ts = search (rules, the_lemmas)

flag_of_tree : (k : Kind) (ts : List Node) → is_set (Tree k ts) ≡ false
flag_of_tree k ts = search (rules, the_lemmas)

async_of_tree : (k : Kind) (ts : List Node) → is_async_name (Tree k ts) ≡ false
async_of_tree k ts = search (rules, the_lemmas)

pub no_pair : (t : Node) → pairable t ≡ false → {A : Type 0} → IsTrue (pairable t) → A
no_pair t e h = absurd (cc)

paired : (t : Node) → IsTrue (pairable t) → Paired t
paired t = by_children (λ t. IsTrue (pairable t) → Paired t)
    (no_pair Absent (search (rules, the_lemmas)), λ x. no_pair (Flag x) (search (rules, the_lemmas)), λ w. no_pair (Word w) (search (rules, the_lemmas)), λ x. no_pair (Text x) (search (rules, the_lemmas)), λ s. no_pair (Span s) (search (rules, the_lemmas)), λ k i. no_pair (Identifier k i) (search (rules, the_lemmas)))
    (λ ts l. no_pair (Many ts) (search (rules, the_lemmas)))
    (λ k ts l h. record { no_word = word_of_tree k ts; not_absent = absent_of_tree k ts; no_flag = flag_of_tree k ts }) t

pair_meets : (d : Demand) (s : Range) (u : Node) → is_met_by_pairs d ≡ true → meets d (Tree kind.ParenExpr (Span s ∷ u ∷ [])) ≡ true
pair_meets Any s u m = refl
pair_meets (AtLeast n) s u m = let e : at_least n (Tree kind.ParenExpr (Span s ∷ u ∷ [])) ≡ (false || nat_le n 19) = search (rules, the_lemmas) in e ∙ m
pair_meets (EachOf n) s u m = search (rules, the_lemmas)
pair_meets Key s u m = search (rules, the_lemmas)
pair_meets Body s u m = search (rules, the_lemmas)
pair_meets Operand s u m = search (rules, the_lemmas)
pair_meets Link s u m = search (rules, the_lemmas)
pair_meets (NewCallee b) s u m = search (rules, the_lemmas)
pair_meets OrSide s u m = search (rules, the_lemmas)
pair_meets NullishSide s u m = search (rules, the_lemmas)

up_around : (s : Range) (t u : Node) → Paired t → Up t (Tree kind.ParenExpr (Span s ∷ u ∷ []))
up_around s t u p = record {
  met = λ d m h. pair_meets d s u m;
  called = λ h. search (rules, the_lemmas);
  async = λ h. async_of_tree kind.ParenExpr (Span s ∷ u ∷ []);
  word_same = word_of_tree kind.ParenExpr (Span s ∷ u ∷ []) ∙ sym p.no_word;
  absent = absent_of_tree kind.ParenExpr (Span s ∷ u ∷ []) ∙ sym p.not_absent;
  flag = flag_of_tree kind.ParenExpr (Span s ∷ u ∷ []) ∙ sym p.no_flag;
}

-- lists
each_up : {ts us : List Node} → AllUp ts us → (n : ℕ) → nat_le n 19 ≡ true → list_all (at_least n) ts ≡ true → list_all (at_least n) us ≡ true
each_up nil n m h = refl
each_up (cons {t = t} {u = u} {ts = ts} {us = us} c d) n m h = let q = both (at_least n t) (list_all (at_least n) ts) h in also_both (at_least n u) (list_all (at_least n) us) (c.met (AtLeast n) m q.0) (each_up d n m q.1)

items_of_many : (ts : List Node) → items_of (Many ts) ≡ ts
items_of_many ts = search (rules, the_lemmas)

list_meets : {ts us : List Node} → AllUp ts us → (d : Demand) → is_met_by_pairs d ≡ true → meets d (Many ts) ≡ true → meets d (Many us) ≡ true
list_meets x Any m h = refl
list_meets {us = us} x (AtLeast n) m h = let e : at_least n (Many us) ≡ (false || nat_le n 19) = search (rules, the_lemmas) in e ∙ m
list_meets {ts = ts} {us = us} x (EachOf n) m h = rw (items_of_many us) (each_up x n m (rw (items_of_many ts) at h))
list_meets x Key m h = search (rules, the_lemmas)
list_meets x Body m h = search (rules, the_lemmas)
list_meets x Operand m h = search (rules, the_lemmas)
list_meets x Link m h = search (rules, the_lemmas)
list_meets x (NewCallee b) m h = search (rules, the_lemmas)
list_meets x OrSide m h = search (rules, the_lemmas)
list_meets x NullishSide m h = search (rules, the_lemmas)

up_list : (ts us : List Node) → AllUp ts us → Up (Many ts) (Many us)
up_list ts us d = record {
  met = list_meets d;
  called = λ h. search (rules, the_lemmas);
  async = λ h. search (rules, the_lemmas);
  word_same = search (rules, the_lemmas);
  absent = search (rules, the_lemmas);
  flag = search (rules, the_lemmas);
}

-- trees
le_more : (n : ℕ) → nat_le n 17 ≡ true → nat_le n 18 ≡ true
le_more n h = let a : n ≤ 17 = leb-true n 17 h in le-leb n 18 (omega arith)

called_if : (n : ℕ) (c d : Bool) → (c ≡ false → d ≡ false) → nat_le n (if c then 17 else 18) ≡ true → nat_le n (if d then 17 else 18) ≡ true
called_if n true true h g = g
called_if n true false h g = le_more n g
called_if n false true h g = absurd (cc (h refl))
called_if n false false h g = g

level_tree : (k : Kind) {ts us : List Node} → AllUp ts us → (n : ℕ) → nat_le n (level_in (Node-F.Tree k ts)) ≡ true → nat_le n (level_in (Node-F.Tree k us)) ≡ true
level_tree kind.BinExpr (cons s (cons o (cons l (cons r nil)))) n g = rw o.word_same g
level_tree kind.MemberExpr (cons s (cons {t = o} {u = o'} c (cons m nil))) n g = called_if n (is_called o) (is_called o') c.called g
level_tree kind.TaggedTpl (cons s (cons {t = o} {u = o'} c (cons m nil))) n g = called_if n (is_called o) (is_called o') c.called g
level_tree kind.NewExpr (cons s (cons c (cons a nil))) n g = rw a.absent g
level_tree k d n g = g

pub at_least_of_tree : (n : ℕ) (k : Kind) (ts : List Node) → at_least n (Tree k ts) ≡ nat_le n (level_in (Node-F.Tree k ts))
at_least_of_tree n k ts = let e : at_least n (Tree k ts) ≡ (false || nat_le n (level_in (Node-F.Tree k ts))) = search (rules, the_lemmas) in e

called_tree : (k : Kind) {ts us : List Node} → AllUp ts us → called_step (Node-F.Tree k (map is_called ts)) ≡ false → called_step (Node-F.Tree k (map is_called us)) ≡ false
called_tree kind.MemberExpr (cons s (cons c (cons m nil))) h = c.called h
called_tree kind.TaggedTpl (cons s (cons c (cons m nil))) h = c.called h
called_tree k d h = h

pub called_of_tree : (k : Kind) (ts : List Node) → is_called (Tree k ts) ≡ called_step (Node-F.Tree k (map is_called ts))
called_of_tree k ts = search (rules, the_lemmas)

bare_tree : (k : Kind) {ts us : List Node} → AllUp ts us → bare_new_in (Node-F.Tree k us) ≡ bare_new_in (Node-F.Tree k ts)
bare_tree kind.NewExpr (cons s (cons c (cons a nil))) = a.absent
bare_tree k d = refl

pub bare_of_tree : (k : Kind) (ts : List Node) → is_bare_new (Tree k ts) ≡ bare_new_in (Node-F.Tree k ts)
bare_of_tree k ts = search (rules, the_lemmas)

nullish_tree : (k : Kind) {ts us : List Node} → AllUp ts us → nullish_in (Node-F.Tree k us) ≡ nullish_in (Node-F.Tree k ts)
nullish_tree kind.BinExpr (cons s (cons o (cons l (cons r nil)))) = ap nullish_word o.word_same
nullish_tree k d = refl

pub nullish_of_tree : (k : Kind) (ts : List Node) → is_nullish (Tree k ts) ≡ nullish_in (Node-F.Tree k ts)
nullish_of_tree k ts = search (rules, the_lemmas)

key_tree : (k : Kind) {ts us : List Node} → AllUp ts us → key_in (Node-F.Tree k ts) ≡ true → key_in (Node-F.Tree k us) ≡ true
key_tree kind.ComputedPropName (cons s (cons e nil)) h = e.met (AtLeast 2) refl h
key_tree k d h = h

key_of_tree : (k : Kind) (ts : List Node) → meets Key (Tree k ts) ≡ key_in (Node-F.Tree k ts)
key_of_tree k ts = search (rules, the_lemmas)

items_of_tree : (k : Kind) (ts : List Node) → items_of (Tree k ts) ≡ []
items_of_tree k ts = search (rules, the_lemmas)

pub kind_of_tree : (q : Kind → Bool) (k : Kind) (ts : List Node) → has_kind q (Tree k ts) ≡ q k
kind_of_tree q k ts = search (rules, the_lemmas)

or_up : (a b c d : Bool) → (a ≡ true → c ≡ true) → d ≡ b → (a || b) ≡ true → (c || d) ≡ true
or_up true b c d f e h = rw (f refl) refl
or_up false b c d f e h = or_right c d (e ∙ h)

and_up : (a b c d : Bool) → c ≡ a → (b ≡ true → d ≡ true) → (a && b) ≡ true → (c && d) ≡ true
and_up a b c d e f h = let q = both a b h in also_both c d (e ∙ q.0) (f q.1)

or_same : (a b d : Bool) → (b ≡ true → d ≡ true) → (a || b) ≡ true → (a || d) ≡ true
or_same true b d f h = refl
or_same false b d f h = f h

same_kind : (q : Kind → Bool) (k : Kind) (ts us : List Node) → has_kind q (Tree k us) ≡ has_kind q (Tree k ts)
same_kind q k ts us = kind_of_tree q k us ∙ sym (kind_of_tree q k ts)

-- a node that keeps these meets what it met
abbrev Lifts : Node → Node → Type 0
Lifts t u = ((n : ℕ) → at_least n t ≡ true → at_least n u ≡ true) × (is_chain u ≡ is_chain t) × (is_bare_new u ≡ is_bare_new t) × (is_nullish u ≡ is_nullish t)

operand_up : (t u : Node) → Lifts t u → (not (is_bare_new t) && at_least 17 t) ≡ true → (not (is_bare_new u) && at_least 17 u) ≡ true
operand_up t u l h = and_up (not (is_bare_new t)) (at_least 17 t) (not (is_bare_new u)) (at_least 17 u) (ap not l.2) (l.0 17) h

tree_meets : (k : Kind) (ts us : List Node) → AllUp ts us → Lifts (Tree k ts) (Tree k us) → (d : Demand) → is_met_by_pairs d ≡ true → meets d (Tree k ts) ≡ true → meets d (Tree k us) ≡ true
tree_meets k ts us x l Any m h = refl
tree_meets k ts us x l (AtLeast n) m h = l.0 n h
tree_meets k ts us x l (EachOf n) m h = rw (items_of_tree k us) refl
tree_meets k ts us x l Key m h = key_of_tree k us ∙ key_tree k x (sym (key_of_tree k ts) ∙ h)
tree_meets k ts us x l Body m h = rw (same_kind is_block k ts us) (or_same (has_kind is_block (Tree k ts)) (at_least 2 (Tree k ts)) (at_least 2 (Tree k us)) (l.0 2) h)
tree_meets k ts us x l Operand m h =
    and_up (not (is_chain (Tree k ts))) (not (is_bare_new (Tree k ts)) && at_least 17 (Tree k ts)) (not (is_chain (Tree k us))) (not (is_bare_new (Tree k us)) && at_least 17 (Tree k us)) (ap not l.1) (operand_up (Tree k ts) (Tree k us) l) h
tree_meets k ts us x l Link m h = operand_up (Tree k ts) (Tree k us) l h
tree_meets k ts us x l (NewCallee b) m h = or_up (at_least 18 (Tree k ts)) (b && is_bare_new (Tree k ts)) (at_least 18 (Tree k us)) (b && is_bare_new (Tree k us)) (l.0 18) (ap (λ c. b && c) l.2) h
tree_meets k ts us x l OrSide m h = and_up (not (is_nullish (Tree k ts))) (at_least 4 (Tree k ts)) (not (is_nullish (Tree k us))) (at_least 4 (Tree k us)) (ap not l.3) (l.0 4) h
tree_meets k ts us x l NullishSide m h = or_up (at_least 6 (Tree k ts)) (is_nullish (Tree k ts)) (at_least 6 (Tree k us)) (is_nullish (Tree k us)) (l.0 6) l.3 h

lifts : (k : Kind) (ts us : List Node) → AllUp ts us → Lifts (Tree k ts) (Tree k us)
lifts k ts us d = (
  λ n h. at_least_of_tree n k us ∙ level_tree k d n (sym (at_least_of_tree n k ts) ∙ h),
  same_kind is_opt_chain k ts us,
  bare_of_tree k us ∙ bare_tree k d ∙ sym (bare_of_tree k ts),
  nullish_of_tree k us ∙ nullish_tree k d ∙ sym (nullish_of_tree k ts),
)

up_tree : (k : Kind) (ts us : List Node) → AllUp ts us → Up (Tree k ts) (Tree k us)
up_tree k ts us d = record {
  met = tree_meets k ts us d (lifts k ts us d);
  called = λ h. called_of_tree k us ∙ called_tree k d (sym (called_of_tree k ts) ∙ h);
  async = λ h. async_of_tree k us;
  word_same = word_of_tree k us ∙ sym (word_of_tree k ts);
  absent = absent_of_tree k us ∙ sym (absent_of_tree k ts);
  flag = flag_of_tree k us ∙ sym (flag_of_tree k ts);
}

a_name : (k : Kind) (i : Ident) → Paired (Identifier k i)
a_name k i = record { no_word = search (rules, the_lemmas); not_absent = search (rules, the_lemmas); no_flag = search (rules, the_lemmas) }

mutual
  pub up : {s : Slot} {t u : Node} → Sets s t u → Up t u
  up (same t) = up_same t
  up (after c d) = up_then (up c) (up d)
  up (around r t u p h d) = up_around r t u (paired t h)
  up (named r k i called) = up_around r (Identifier k i) (Identifier kind.Ident i) (a_name k i)
  up (items ts us d) = up_list ts us (ups d)
  up (tree k ts us e d) = up_tree k ts us (fields_up d)

  pub ups : {s : Slot} {ts us : List Node} → AllSet s ts us → AllUp ts us
  ups none = nil
  ups (more c d) = cons (up c) (ups d)

  pub fields_up : {ss : List Slot} {ts us : List Node} → FieldsSet ss ts us → AllUp ts us
  fields_up no_field = nil
  fields_up (field c d) = cons (up c) (fields_up d)
