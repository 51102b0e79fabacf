-- A tree whose pairs stand where other places have them; nothing that the due pairs are decided by changes.
use Rattle.std.proofs.Common.{◌≡◌, ℕ, Bool, true, false, List, [], ◌∷◌, map, refl, sym, ap, ◌∙◌, rules}
use Rattle.std.specs.Prelude.{if◌then◌else◌}
use Rattle.swc_tree_marks.specs.declared.span.Span.{Span as Range}
use Rattle.swc_tree_marks.specs.declared.ident.Ident.{Ident}
use Rattle.swc_tree_node.specs.declared.kind.Kind.{Kind}
use Rattle.swc_tree_node.specs.declared.kind.Kind.TheVariants as kind
use Rattle.swc_tree_node.specs.declared.kind.Word.{Word as Word'}
use Rattle.swc_tree_node.specs.declared.node.Node.{Node, Absent, Flag, Word, Text, Span, List as Many, Identifier, Tree, out-Node, roll-Node, fold-Node, the_lemmas}
use Rattle.swc_tree_node.specs.declared.node.Node.TheOpen.{Node-F}
use Rattle.swc_tree_grammar.specs.Shapes.{items_of}
use Rattle.swc_tree_grammar.specs.Blocks.{span_of, no_span}
use Rattle.swc_tree_grammar.specs.Spanless.{spanless}
use Rattle.swc_tree_grammar.specs.Due.{Places, pair}
use Rattle.swc_tree_grammar.proofs.Induction.{Each, by_children}
use Rattle.swc_base_fixer_laws.proofs.AgainNamed.{spanless_of_tree, spanless_of_list}

abbrev pub is_span_in : Node-F Node → Bool
is_span_in (Node-F.Span s) = true
is_span_in _ = false

abbrev pub is_span : Node → Bool
is_span t = is_span_in (out-Node t)

-- what says where a pair stands says it anew
abbrev pub put : Range → Node → Node
put r s = if is_span s then Span r else s

abbrev pub placed_fields : Places → Kind → List Node → List Node
placed_fields q kind.ParenExpr (s ∷ e ∷ []) = put (q (span_of e)) s ∷ e ∷ []
placed_fields q k us = us

abbrev pub placed_step : Places → Node-F Node → Node
placed_step q (Node-F.Tree k us) = Tree k (placed_fields q k us)
placed_step q t = roll-Node t

-- the tree with each pair where the places have it
abbrev pub placed : Places → Node → Node
placed q = fold-Node Node (placed_step q)

module _ (q : Places) where
  pub placed_of_tree : (k : Kind) (ts : List Node) → placed q (Tree k ts) ≡ Tree k (placed_fields q k (map (placed q) ts))
  placed_of_tree k ts = search (rules, the_lemmas)

  pub placed_of_list : (ts : List Node) → placed q (Many ts) ≡ Many (map (placed q) ts)
  placed_of_list ts = search (rules, the_lemmas)

  pub placed_of_span : (s : Range) → placed q (Span s) ≡ Span s
  placed_of_span s = search (rules, the_lemmas)

  pub placed_of_name : (k : Kind) (i : Ident) → placed q (Identifier k i) ≡ Identifier k i
  placed_of_name k i = search (rules, the_lemmas)

  pub placed_of_absent : placed q Absent ≡ Absent
  placed_of_absent = search (rules, the_lemmas)

  pub placed_of_flag : (x : Bool) → placed q (Flag x) ≡ Flag x
  placed_of_flag x = search (rules, the_lemmas)

  pub placed_of_word : (w : Word') → placed q (Word w) ≡ Word w
  placed_of_word w = search (rules, the_lemmas)

  pub placed_of_text : (x : List ℕ) → placed q (Text x) ≡ Text x
  placed_of_text x = search (rules, the_lemmas)

abbrev pub is_pair : Kind → Bool
is_pair kind.ParenExpr = true
is_pair _ = false

fields_other : (q : Places) (k : Kind) (us : List Node) → is_pair k ≡ false → placed_fields q k us ≡ us
fields_other q kind.ParenExpr us e = absurd (cc)
fields_other q k us e = refl

pub placed_other : (q : Places) (k : Kind) (ts : List Node) → is_pair k ≡ false → placed q (Tree k ts) ≡ Tree k (map (placed q) ts)
placed_other q k ts e = placed_of_tree q k ts ∙ ap (Tree k) (fields_other q k (map (placed q) ts) e)

pub span_is : (s : Range) → is_span (Span s) ≡ true
span_is s = search (rules, the_lemmas)

pub tree_is_none : (k : Kind) (ts : List Node) → is_span (Tree k ts) ≡ false
tree_is_none k ts = search (rules, the_lemmas)

pub list_is_none : (ts : List Node) → is_span (Many ts) ≡ false
list_is_none ts = search (rules, the_lemmas)

pub put_span : (r s : Range) → put r (Span s) ≡ Span r
put_span r s = search (rules, the_lemmas)

-- a pair
pub placed_pair : (p q : Places) (e : Node) → placed q (pair p e) ≡ pair q (placed q e)
placed_pair p q e =
    placed_of_tree q kind.ParenExpr (Span (p (span_of e)) ∷ e ∷ []) ∙ ap (λ s. Tree kind.ParenExpr (put (q (span_of (placed q e))) s ∷ placed q e ∷ [])) (placed_of_span q (p (span_of e)))
    ∙ ap (λ s. Tree kind.ParenExpr (s ∷ placed q e ∷ [])) (put_span (q (span_of (placed q e))) (p (span_of e)))

-- spans alone change
span_less : (t : Node) → is_span t ≡ true → spanless t ≡ Span no_span
span_less t = by_children (λ t. is_span t ≡ true → spanless t ≡ Span no_span)
    (λ h. absurd (cc (sym h ∙ (let e : is_span Absent ≡ false = search (rules, the_lemmas) in e))), λ x h. absurd (cc (sym h ∙ (let e : is_span (Flag x) ≡ false = search (rules, the_lemmas) in e))), λ w h. absurd (cc (sym h ∙ (let e : is_span (Word w) ≡ false = search (rules, the_lemmas) in e))), λ x h. absurd (cc (sym h ∙ (let e : is_span (Text x) ≡ false = search (rules, the_lemmas) in e))), λ s h. search (rules, the_lemmas), λ k i h. absurd (cc (sym h ∙ (let e : is_span (Identifier k i) ≡ false = search (rules, the_lemmas) in e))))
    (λ ts l h. absurd (cc (sym h ∙ list_is_none ts)))
    (λ k ts l h. absurd (cc (sym h ∙ tree_is_none k ts))) t

put_if : (b : Bool) (r : Range) (t : Node) → is_span t ≡ b → spanless (if b then Span r else t) ≡ spanless t
put_if true r t e = (let g : spanless (Span r) ≡ Span no_span = search (rules, the_lemmas) in g ∙ sym (span_less t e))
put_if false r t e = refl

put_less : (r : Range) (t : Node) → spanless (put r t) ≡ spanless t
put_less r t = put_if (is_span t) r t refl

fields_less : (q : Places) (k : Kind) (us : List Node) → map spanless (placed_fields q k us) ≡ map spanless us
fields_less q kind.ParenExpr (s ∷ e ∷ []) = ap (λ s. s ∷ spanless e ∷ []) (put_less (q (span_of e)) s)
fields_less q k us = refl

module _ (q : Places) where
  abbrev Less : Node → Type 0
  Less t = spanless (placed q t) ≡ spanless t

  each_less : (ts : List Node) → Each Less ts → map spanless (map (placed q) ts) ≡ map spanless ts
  each_less [] l = refl
  each_less (t ∷ ts) l = rw (l.0, each_less ts l.1) refl

  pub placed_less : (t : Node) → Less t
  placed_less t = by_children Less
      (ap spanless (placed_of_absent q), λ x. ap spanless (placed_of_flag q x), λ w. ap spanless (placed_of_word q w), λ x. ap spanless (placed_of_text q x), λ s. ap spanless (placed_of_span q s), λ k i. ap spanless (placed_of_name q k i))
      (λ ts l. ap spanless (placed_of_list q ts) ∙ spanless_of_list (map (placed q) ts) ∙ ap Many (each_less ts l) ∙ sym (spanless_of_list ts))
      (λ k ts l.
      ap spanless (placed_of_tree q k ts) ∙ spanless_of_tree k (placed_fields q k (map (placed q) ts)) ∙ ap (Tree k) (fields_less q k (map (placed q) ts) ∙ each_less ts l)
      ∙ sym (spanless_of_tree k ts)) t

  -- what a test says of a tree without spans it says of both
  pub seen_same : (X : Type 0) (x : Node → X) → ((t : Node) → x (spanless t) ≡ x t) → (t : Node) → x (placed q t) ≡ x t
  seen_same X x h t = sym (h (placed q t)) ∙ ap x (placed_less t) ∙ h t

  items_row : (k : Kind) (ts : List Node) → items_of (Tree k (placed_fields q k ts)) ≡ []
  items_row k ts = search (rules, the_lemmas)

  pub placed_items : (t : Node) → items_of (placed q t) ≡ map (placed q) (items_of t)
  placed_items t = by_children (λ t. items_of (placed q t) ≡ map (placed q) (items_of t)) (
    ap items_of (placed_of_absent q) ∙ search (rules, the_lemmas),
    λ x. ap items_of (placed_of_flag q x) ∙ search (rules, the_lemmas),
    λ w. ap items_of (placed_of_word q w) ∙ search (rules, the_lemmas),
    λ x. ap items_of (placed_of_text q x) ∙ search (rules, the_lemmas),
    λ s. ap items_of (placed_of_span q s) ∙ search (rules, the_lemmas),
    λ k i. ap items_of (placed_of_name q k i) ∙ search (rules, the_lemmas),
  )
      (λ ts h. (let e : items_of (Many (map (placed q) ts)) ≡ map (placed q) ts = search (rules, the_lemmas) in let d : items_of (Many ts) ≡ ts = search (rules, the_lemmas) in ap items_of (placed_of_list q ts) ∙ e ∙ sym (ap (map (placed q)) d)))
      (λ k ts h. ap items_of (placed_of_tree q k ts) ∙ search (rules, the_lemmas)) t
