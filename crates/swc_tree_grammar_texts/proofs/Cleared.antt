-- A tree whose contexts are emptied: what is seen of a node stays.
use Rattle.std.proofs.Common.{◌≡◌, ℕ, zero, suc, Bool, Option, List, [], ◌∷◌, map, refl, sym, ap, ◌∙◌, rules}
use Rattle.std.specs.Prelude.{length, slice_get}
use Rattle.std.specs.List.{list_all}
use Rattle.swc_tree_marks.specs.declared.span.Span.{Span as Range}
use Rattle.swc_tree_marks.specs.declared.ident.Ident.{Ident}
use Rattle.swc_tree_node.specs.declared.kind.Kind.{Kind}
use Rattle.swc_tree_node.specs.declared.kind.Word.{Word as Word'}
use Rattle.swc_tree_node.specs.declared.node.Node.{Node, Absent, Flag, Word, Text, Span, List as Many, Identifier, Tree, out-Node, the_lemmas}
use Rattle.swc_tree_node.specs.declared.node.Node.TheOpen.{Node-F}
use Rattle.swc_tree_scoping.specs.Places.{flag_in, flag_of, text_in, text_of}
use Rattle.swc_tree_scoping.specs.Readings.{by_texts}
use Rattle.swc_tree_grammar.specs.Shapes.{items_of}
use Rattle.swc_tree_grammar.specs.Kinds.{has_kind, has_kind_in}
use Rattle.swc_tree_grammar.specs.Forms.{holds}
use Rattle.swc_tree_grammar.specs.Levels.{word_of, word_in, is_absent, is_absent_in}
use Rattle.swc_tree_grammar.specs.Targets.{seen, seen_step, is_target}
use Rattle.swc_tree_grammar.proofs.Induction.{Each, by_children}

abbrev pub bare : Ident → Ident
bare i = record i { ctxt = [] }

-- ---- the forms of a node

pub text_absent : by_texts Absent ≡ Absent
text_absent = search (rules, the_lemmas)

pub text_flag : (x : Bool) → by_texts (Flag x) ≡ Flag x
text_flag x = search (rules, the_lemmas)

pub text_word : (w : Word') → by_texts (Word w) ≡ Word w
text_word w = search (rules, the_lemmas)

pub text_text : (x : List ℕ) → by_texts (Text x) ≡ Text x
text_text x = search (rules, the_lemmas)

pub text_span : (s : Range) → by_texts (Span s) ≡ Span s
text_span s = search (rules, the_lemmas)

pub text_name : (k : Kind) (i : Ident) → by_texts (Identifier k i) ≡ Identifier k (bare i)
text_name k i = search (rules, the_lemmas)

pub text_list : (ts : List Node) → by_texts (Many ts) ≡ Many (map by_texts ts)
text_list ts = search (rules, the_lemmas)

pub text_tree : (k : Kind) (ts : List Node) → by_texts (Tree k ts) ≡ Tree k (map by_texts ts)
text_tree k ts = search (rules, the_lemmas)

-- ---- lists

pub each_same : {X : Type 0} (f g : Node → X) (ts : List Node) → Each (λ t. f t ≡ g t) ts → map f ts ≡ map g ts
each_same f g [] l = refl
each_same f g (t ∷ ts) l = rw (l.0, each_same f g ts l.1) refl

pub map_after : {X : Type 0} (f : Node → X) (g : Node → Node) (ts : List Node) → map f (map g ts) ≡ map (λ t. f (g t)) ts
map_after f g [] = refl
map_after f g (t ∷ ts) = ap (λ us. f (g t) ∷ us) (map_after f g ts)

pub all_same : (q : Node → Bool) → ((t : Node) → q (by_texts t) ≡ q t) → (ts : List Node) → list_all q (map by_texts ts) ≡ list_all q ts
all_same q h [] = refl
all_same q h (t ∷ ts) = rw (h t, all_same q h ts) refl

pub count_same : (ts : List Node) → length (map by_texts ts) ≡ length ts
count_same [] = refl
count_same (t ∷ ts) = ap suc (count_same ts)

-- ---- what a test sees of a node

module _ (X : Type 0) (g : Node-F Node → X) where
  abbrev Same : Node → Type 0
  Same t = g (out-Node (by_texts t)) ≡ g (out-Node t)

  out_tree : (k : Kind) (ts : List Node) → g (out-Node (Tree k ts)) ≡ g (Node-F.Tree k ts)
  out_tree k ts = search (rules, the_lemmas)

  out_list : (ts : List Node) → g (out-Node (Many ts)) ≡ g (Node-F.List ts)
  out_list ts = search (rules, the_lemmas)

  out_name : (k : Kind) (i : Ident) → g (out-Node (Identifier k i)) ≡ g (Node-F.Identifier k i)
  out_name k i = search (rules, the_lemmas)

  pub look : ((k : Kind) (i : Ident) → g (Node-F.Identifier k (bare i)) ≡ g (Node-F.Identifier k i)) → ((ts : List Node) → g (Node-F.List (map by_texts ts)) ≡ g (Node-F.List ts))
      → ((k : Kind) (ts : List Node) → g (Node-F.Tree k (map by_texts ts)) ≡ g (Node-F.Tree k ts)) → (t : Node) → Same t
  look n l p t = by_children Same
      (ap (λ t. g (out-Node t)) text_absent, λ x. ap (λ t. g (out-Node t)) (text_flag x), λ w. ap (λ t. g (out-Node t)) (text_word w), λ x. ap (λ t. g (out-Node t)) (text_text x), λ r. ap (λ t. g (out-Node t)) (text_span r), λ k i. ap (λ t. g (out-Node t)) (text_name k i) ∙ out_name k (bare i) ∙ n k i ∙ sym (out_name k i))
      (λ ts h. ap (λ t. g (out-Node t)) (text_list ts) ∙ out_list (map by_texts ts) ∙ l ts ∙ sym (out_list ts))
      (λ k ts h. ap (λ t. g (out-Node t)) (text_tree k ts) ∙ out_tree k (map by_texts ts) ∙ p k ts ∙ sym (out_tree k ts)) t

pub word_same : (t : Node) → word_of (by_texts t) ≡ word_of t
word_same t = look (Option Word') word_in (λ k i. refl) (λ ts. refl) (λ k ts. refl) t

pub absent_same : (t : Node) → is_absent (by_texts t) ≡ is_absent t
absent_same t = look Bool is_absent_in (λ k i. refl) (λ ts. refl) (λ k ts. refl) t

pub kind_same : (x : Kind → Bool) (t : Node) → has_kind x (by_texts t) ≡ has_kind x t
kind_same x t = look Bool (has_kind_in x) (λ k i. refl) (λ ts. refl) (λ k ts. refl) t

pub holds_same : (t : Node) → holds (by_texts t) ≡ holds t
holds_same t = look Bool flag_in (λ k i. refl) (λ ts. refl) (λ k ts. refl) t

pub words_same : (t : Node) → text_in (out-Node (by_texts t)) ≡ text_in (out-Node t)
words_same t = look (Option (List ℕ)) text_in (λ k i. refl) (λ ts. refl) (λ k ts. refl) t

-- fields
pub flag_at : (n : ℕ) (ts : List Node) → flag_of (slice_get (map by_texts ts) n) ≡ flag_of (slice_get ts n)
flag_at n [] = refl
flag_at zero (t ∷ ts) = holds_same t
flag_at (suc n) (t ∷ ts) = flag_at n ts

pub text_at : (n : ℕ) (ts : List Node) → text_of (slice_get (map by_texts ts) n) ≡ text_of (slice_get ts n)
text_at n [] = refl
text_at zero (t ∷ ts) = words_same t
text_at (suc n) (t ∷ ts) = text_at n ts

-- items
pub items_same : (t : Node) → items_of (by_texts t) ≡ map by_texts (items_of t)
items_same t = by_children (λ t. items_of (by_texts t) ≡ map by_texts (items_of t)) (
  ap items_of text_absent ∙ search (rules, the_lemmas),
  λ x. ap items_of (text_flag x) ∙ search (rules, the_lemmas),
  λ w. ap items_of (text_word w) ∙ search (rules, the_lemmas),
  λ x. ap items_of (text_text x) ∙ search (rules, the_lemmas),
  λ s. ap items_of (text_span s) ∙ search (rules, the_lemmas),
  λ k i. ap items_of (text_name k i) ∙ search (rules, the_lemmas),
)
    (λ ts h. (let e : items_of (Many (map by_texts ts)) ≡ map by_texts ts = search (rules, the_lemmas) in let d : items_of (Many ts) ≡ ts = search (rules, the_lemmas) in ap items_of (text_list ts) ∙ e ∙ sym (ap (map by_texts) d)))
    (λ k ts h. ap items_of (text_tree k ts) ∙ search (rules, the_lemmas)) t

-- ---- targets

seen_tree : (k : Kind) (ts : List Node) → seen (Tree k ts) ≡ seen_step (Node-F.Tree k (map seen ts))
seen_tree k ts = search (rules, the_lemmas)

seen_list : (ts : List Node) → seen (Many ts) ≡ seen_step (Node-F.List (map seen ts))
seen_list ts = search (rules, the_lemmas)

seen_name : (k : Kind) (i : Ident) → seen (Identifier k i) ≡ seen_step (Node-F.Identifier k i)
seen_name k i = search (rules, the_lemmas)

each_seen : (ts : List Node) → Each (λ t. seen (by_texts t) ≡ seen t) ts → map seen (map by_texts ts) ≡ map seen ts
each_seen ts l = map_after seen by_texts ts ∙ each_same (λ t. seen (by_texts t)) seen ts l

seen_same : (t : Node) → seen (by_texts t) ≡ seen t
seen_same t = by_children (λ t. seen (by_texts t) ≡ seen t)
    (ap seen text_absent, λ x. ap seen (text_flag x), λ w. ap seen (text_word w), λ x. ap seen (text_text x), λ s. ap seen (text_span s), λ k i. ap seen (text_name k i) ∙ seen_name k (bare i) ∙ sym (seen_name k i))
    (λ ts l. ap seen (text_list ts) ∙ seen_list (map by_texts ts) ∙ ap (λ es. seen_step (Node-F.List es)) (each_seen ts l) ∙ sym (seen_list ts))
    (λ k ts l. ap seen (text_tree k ts) ∙ seen_tree k (map by_texts ts) ∙ ap (λ es. seen_step (Node-F.Tree k es)) (each_seen ts l) ∙ sym (seen_tree k ts)) t

pub target_same : (t : Node) → is_target (by_texts t) ≡ is_target t
target_same t = ap (λ s. s.is_target) (seen_same t)
