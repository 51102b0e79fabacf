-- A tree whose contexts are emptied or given anew: what is seen of a node stays.
use Rattle.std.proofs.Common.{◌≡◌, ℕ, zero, suc, Bool, Option, List, [], ◌∷◌, length, map, refl, sym, ap, ◌∙◌, rules}
use Rattle.std.specs.Prelude.{slice_get}
use Rattle.std.specs.List.{list_all, list_any}
use Rattle.swc_tree_marks.specs.declared.span.Span.{Span as Range}
use Rattle.swc_tree_marks.specs.declared.ident.Ident.{Ident}
use Rattle.swc_tree_node.specs.declared.kind.Kind.{Kind}
use Rattle.swc_tree_node.specs.declared.kind.Word.{Word as Word'}
use Rattle.swc_tree_node.specs.declared.node.Node.{Node, Absent, Flag, Word, Text, Span, List as Many, Identifier, Tree, out-Node, the_lemmas}
use Rattle.swc_tree_node.specs.declared.node.Node.TheOpen.{Node-F}
use Rattle.swc_tree_node.specs.declared.node.Node.TheVariants.{outs-Absent, outs-Flag, outs-Word, outs-Text, outs-Span}
use Rattle.swc_tree_scoping.specs.Places.{flag_in, flag_of, text_in}
use Rattle.swc_tree_scoping.specs.Readings.{by_texts}
use Rattle.swc_tree_scoping.specs.Resolved.{Contexts, remarked}
use Rattle.swc_tree_scoping.proofs.Remarked.{each_remarked, remarked-Identifier, remarked-List, remarked-Tree, remarked-leaf}
use Rattle.swc_tree_grammar.specs.Shapes.{items_of}
use Rattle.swc_tree_grammar.specs.Kinds.{has_kind, has_kind_in}
use Rattle.swc_tree_grammar.specs.Forms.{holds}
use Rattle.swc_tree_grammar.specs.Levels.{is_absent, is_absent_in, word_in, word_of}
use Rattle.swc_tree_grammar.proofs.Induction.{Each, by_children}

abbrev pub bare : Ident → Ident
bare i = record i { ctxt = [] }

-- ---- the forms of a node

pub text_absent : by_texts Absent ≡ Absent
text_absent = search (rules, the_lemmas)

pub text_flag : (x : Bool) → by_texts (Flag x) ≡ Flag x
text_flag x = search (rules, the_lemmas)

pub text_word : (w : Word') → by_texts (Word w) ≡ Word w
text_word w = search (rules, the_lemmas)

pub text_text : (x : List ℕ) → by_texts (Text x) ≡ Text x
text_text x = search (rules, the_lemmas)

pub text_span : (s : Range) → by_texts (Span s) ≡ Span s
text_span s = search (rules, the_lemmas)

pub text_name : (k : Kind) (i : Ident) → by_texts (Identifier k i) ≡ Identifier k (bare i)
text_name k i = search (rules, the_lemmas)

pub text_list : (ts : List Node) → by_texts (Many ts) ≡ Many (map by_texts ts)
text_list ts = search (rules, the_lemmas)

pub text_tree : (k : Kind) (ts : List Node) → by_texts (Tree k ts) ≡ Tree k (map by_texts ts)
text_tree k ts = search (rules, the_lemmas)

-- ---- what a test sees of a node

module _ (X : Type 0) (g : Node-F Node → X) where
  abbrev Same : Node → Type 0
  Same t = g (out-Node (by_texts t)) ≡ g (out-Node t)

  out_tree : (k : Kind) (ts : List Node) → g (out-Node (Tree k ts)) ≡ g (Node-F.Tree k ts)
  out_tree k ts = search (rules, the_lemmas)

  out_list : (ts : List Node) → g (out-Node (Many ts)) ≡ g (Node-F.List ts)
  out_list ts = search (rules, the_lemmas)

  out_name : (k : Kind) (i : Ident) → g (out-Node (Identifier k i)) ≡ g (Node-F.Identifier k i)
  out_name k i = search (rules, the_lemmas)

  pub look : ((k : Kind) (i : Ident) → g (Node-F.Identifier k (bare i)) ≡ g (Node-F.Identifier k i)) → ((ts : List Node) → g (Node-F.List (map by_texts ts)) ≡ g (Node-F.List ts))
      → ((k : Kind) (ts : List Node) → g (Node-F.Tree k (map by_texts ts)) ≡ g (Node-F.Tree k ts)) → (t : Node) → Same t
  look n l p t = by_children Same
      (ap (λ t. g (out-Node t)) text_absent, λ x. ap (λ t. g (out-Node t)) (text_flag x), λ w. ap (λ t. g (out-Node t)) (text_word w), λ x. ap (λ t. g (out-Node t)) (text_text x), λ r. ap (λ t. g (out-Node t)) (text_span r), λ k i. ap (λ t. g (out-Node t)) (text_name k i) ∙ out_name k (bare i) ∙ n k i ∙ sym (out_name k i))
      (λ ts h. ap (λ t. g (out-Node t)) (text_list ts) ∙ out_list (map by_texts ts) ∙ l ts ∙ sym (out_list ts))
      (λ k ts h. ap (λ t. g (out-Node t)) (text_tree k ts) ∙ out_tree k (map by_texts ts) ∙ p k ts ∙ sym (out_tree k ts)) t

pub word_same : (t : Node) → word_of (by_texts t) ≡ word_of t
word_same t = look (Option Word') word_in (λ k i. refl) (λ ts. refl) (λ k ts. refl) t

pub absent_same : (t : Node) → is_absent (by_texts t) ≡ is_absent t
absent_same t = look Bool is_absent_in (λ k i. refl) (λ ts. refl) (λ k ts. refl) t

pub kind_same : (x : Kind → Bool) (t : Node) → has_kind x (by_texts t) ≡ has_kind x t
kind_same x t = look Bool (has_kind_in x) (λ k i. refl) (λ ts. refl) (λ k ts. refl) t

pub holds_same : (t : Node) → holds (by_texts t) ≡ holds t
holds_same t = look Bool flag_in (λ k i. refl) (λ ts. refl) (λ k ts. refl) t

pub words_same : (t : Node) → text_in (out-Node (by_texts t)) ≡ text_in (out-Node t)
words_same t = look (Option (List ℕ)) text_in (λ k i. refl) (λ ts. refl) (λ k ts. refl) t

-- ---- fields and items

pub flag_at : (n : ℕ) (ts : List Node) → flag_of (slice_get (map by_texts ts) n) ≡ flag_of (slice_get ts n)
flag_at n [] = refl
flag_at zero (t ∷ ts) = holds_same t
flag_at (suc n) (t ∷ ts) = flag_at n ts

pub items_same : (t : Node) → items_of (by_texts t) ≡ map by_texts (items_of t)
items_same t = by_children (λ t. items_of (by_texts t) ≡ map by_texts (items_of t)) (
  ap items_of text_absent ∙ search (rules, the_lemmas),
  λ x. ap items_of (text_flag x) ∙ search (rules, the_lemmas),
  λ w. ap items_of (text_word w) ∙ search (rules, the_lemmas),
  λ x. ap items_of (text_text x) ∙ search (rules, the_lemmas),
  λ s. ap items_of (text_span s) ∙ search (rules, the_lemmas),
  λ k i. ap items_of (text_name k i) ∙ search (rules, the_lemmas),
)
    (λ ts h. (let e : items_of (Many (map by_texts ts)) ≡ map by_texts ts = search (rules, the_lemmas) in let d : items_of (Many ts) ≡ ts = search (rules, the_lemmas) in ap items_of (text_list ts) ∙ e ∙ sym (ap (map by_texts) d)))
    (λ k ts h. ap items_of (text_tree k ts) ∙ search (rules, the_lemmas)) t

pub count_same : (ts : List Node) → length (map by_texts ts) ≡ length ts
count_same [] = refl
count_same (t ∷ ts) = ap suc (count_same ts)

pub all_same : (q : Node → Bool) → ((t : Node) → q (by_texts t) ≡ q t) → (ts : List Node) → list_all q (map by_texts ts) ≡ list_all q ts
all_same q h [] = refl
all_same q h (t ∷ ts) = rw (h t, all_same q h ts) refl

pub any_same : (q : Node → Bool) → ((t : Node) → q (by_texts t) ≡ q t) → (ts : List Node) → list_any q (map by_texts ts) ≡ list_any q ts
any_same q h [] = refl
any_same q h (t ∷ ts) = rw (h t, any_same q h ts) refl

-- ---- contexts given anew

abbrev Stays : Node → Type 0
Stays t = (c : Contexts) → by_texts (remarked c t) ≡ by_texts t

each_stays : (c : ℕ → Contexts) (ts : List Node) → Each Stays ts → map by_texts (each_remarked c ts) ≡ map by_texts ts
each_stays c [] h = refl
each_stays c (t ∷ ts) h = ap (λ u. u ∷ map by_texts (each_remarked (λ i. c (suc i)) ts)) (h.0 (c zero)) ∙ ap (λ us. by_texts t ∷ us) (each_stays (λ i. c (suc i)) ts h.1)

pub texts_stay : (t : Node) → Stays t
texts_stay = by_children Stays (
  λ c. ap by_texts (remarked-leaf c Absent Node-F.Absent outs-Absent refl),
  λ x c. ap by_texts (remarked-leaf c (Flag x) (Node-F.Flag x) (outs-Flag x) refl),
  λ w c. ap by_texts (remarked-leaf c (Word w) (Node-F.Word w) (outs-Word w) refl),
  λ x c. ap by_texts (remarked-leaf c (Text x) (Node-F.Text x) (outs-Text x) refl),
  λ s c. ap by_texts (remarked-leaf c (Span s) (Node-F.Span s) (outs-Span s) refl),
  λ k i c. ap by_texts (remarked-Identifier c k i) ∙ text_name k (record i { ctxt = c [] }) ∙ sym (text_name k i),
)
    (λ ts h c. ap by_texts (remarked-List c ts) ∙ text_list (each_remarked (λ i p. c (i ∷ p)) ts) ∙ ap Many (each_stays (λ i p. c (i ∷ p)) ts h) ∙ sym (text_list ts))
    (λ k ts h c. ap by_texts (remarked-Tree c k ts) ∙ text_tree k (each_remarked (λ i p. c (i ∷ p)) ts) ∙ ap (Tree k) (each_stays (λ i p. c (i ∷ p)) ts h) ∙ sym (text_tree k ts))
