-- Trees that are the same but for spans have one outline, and the same names at the same paths.
use Rattle.std.proofs.Common.{◌≡◌, ℕ, Bool, Option, Some, None, List, [], ◌∷◌, map, sym, ap, ◌∙◌, rules}
use Rattle.std.specs.Prelude.{option_map, slice_get}
use Rattle.std.proofs.lemmas.Option.{slice_get-map}
use Rattle.swc_tree_marks.specs.declared.span.Span.{Span as Range}
use Rattle.swc_tree_marks.specs.declared.ident.Ident.{Ident}
use Rattle.swc_tree_node.specs.declared.kind.Kind.{Kind}
use Rattle.swc_tree_node.specs.declared.kind.Word.{Word as Word'}
use Rattle.swc_tree_node.specs.declared.node.Node.{Node, Absent, Flag, Word, Text, Span, List as Many, Identifier, Tree, out-Node, the_lemmas}
use Rattle.swc_tree_node.specs.declared.node.Node.TheVariants.{outs-Absent, outs-Flag, outs-Word, outs-Text, outs-Span, outs-List, outs-Identifier, outs-Tree}
use Rattle.swc_tree_scoping.specs.declared.places.Place.{Place}
use Rattle.swc_tree_scoping.specs.Places.{Path, child, children_in, given, place_at, place_below}
use Rattle.swc_tree_renaming.specs.Apart.{SameId}
use Rattle.swc_tree_renaming.proofs.Shape.{some_same}
use Rattle.swc_tree_renaming.proofs.Whole.{identifier_same}
use Rattle.swc_tree_grammar.specs.Blocks.{no_span}
use Rattle.swc_tree_grammar.specs.Spanless.{SameButForSpans, spanless}
use Rattle.swc_tree_grammar.proofs.Induction.{Each, by_children}
use Rattle.swc_tree_grammar_texts.proofs.Cleared.{each_same, map_after}
use Rattle.swc_base_rename_laws.specs.NewNames.{outline}
use Rattle.swc_base_rename_laws.proofs.Outline.{outline_identifier, outline_list, outline_span, outline_tree, places_alike}

abbrev unspanned : Ident → Ident
unspanned i = record i { span = no_span }

-- ---- the forms of a node

spanless_absent : spanless Absent ≡ Absent
spanless_absent = search (rules, the_lemmas)

spanless_flag : (x : Bool) → spanless (Flag x) ≡ Flag x
spanless_flag x = search (rules, the_lemmas)

spanless_word : (w : Word') → spanless (Word w) ≡ Word w
spanless_word w = search (rules, the_lemmas)

spanless_text : (x : List ℕ) → spanless (Text x) ≡ Text x
spanless_text x = search (rules, the_lemmas)

spanless_span : (s : Range) → spanless (Span s) ≡ Span no_span
spanless_span s = search (rules, the_lemmas)

spanless_name : (k : Kind) (i : Ident) → spanless (Identifier k i) ≡ Identifier k (unspanned i)
spanless_name k i = search (rules, the_lemmas)

spanless_list : (ts : List Node) → spanless (Many ts) ≡ Many (map spanless ts)
spanless_list ts = search (rules, the_lemmas)

spanless_tree : (k : Kind) (ts : List Node) → spanless (Tree k ts) ≡ Tree k (map spanless ts)
spanless_tree k ts = search (rules, the_lemmas)

-- ---- outlines

abbrev Same : Node → Type 0
Same t = outline (spanless t) ≡ outline t

all_same : (ts : List Node) → Each Same ts → map outline (map spanless ts) ≡ map outline ts
all_same ts l = map_after outline spanless ts ∙ each_same (λ t. outline (spanless t)) outline ts l

outline_spanless : (t : Node) → Same t
outline_spanless t = by_children Same (
  ap outline spanless_absent,
  λ x. ap outline (spanless_flag x),
  λ w. ap outline (spanless_word w),
  λ x. ap outline (spanless_text x),
  λ s. ap outline (spanless_span s) ∙ outline_span no_span ∙ sym (outline_span s),
  λ k i. ap outline (spanless_name k i) ∙ outline_identifier k (unspanned i) ∙ sym (outline_identifier k i),
)
    (λ ts l. ap outline (spanless_list ts) ∙ outline_list (map spanless ts) ∙ ap Many (all_same ts l) ∙ sym (outline_list ts))
    (λ k ts l. ap outline (spanless_tree k ts) ∙ outline_tree k (map spanless ts) ∙ ap (Tree k) (all_same ts l) ∙ sym (outline_tree k ts)) t

pub one_outline : (t u : Node) → SameButForSpans t u → outline t ≡ outline u
one_outline t u e = sym (outline_spanless t) ∙ ap outline e ∙ outline_spanless u

-- ---- children

abbrev Kids : Node → Type 0
Kids t = children_in (out-Node (spanless t)) ≡ map spanless (children_in (out-Node t))

alone : (t u : Node) → spanless t ≡ u → children_in (out-Node u) ≡ [] → children_in (out-Node t) ≡ [] → Kids t
alone t u e f g = ap (λ t. children_in (out-Node t)) e ∙ f ∙ sym (ap (map spanless) g)

kids : (t : Node) → Kids t
kids t = by_children Kids (
  alone _ _ spanless_absent (ap children_in outs-Absent) (ap children_in outs-Absent),
  λ x. alone _ _ (spanless_flag x) (ap children_in (outs-Flag x)) (ap children_in (outs-Flag x)),
  λ w. alone _ _ (spanless_word w) (ap children_in (outs-Word w)) (ap children_in (outs-Word w)),
  λ x. alone _ _ (spanless_text x) (ap children_in (outs-Text x)) (ap children_in (outs-Text x)),
  λ s. alone _ _ (spanless_span s) (ap children_in (outs-Span no_span)) (ap children_in (outs-Span s)),
  λ k i. alone _ _ (spanless_name k i) (ap children_in (outs-Identifier k (unspanned i))) (ap children_in (outs-Identifier k i)),
)
    (λ ts l. ap (λ t. children_in (out-Node t)) (spanless_list ts) ∙ ap children_in (outs-List (map spanless ts)) ∙ sym (ap (λ y. map spanless (children_in y)) (outs-List ts)))
    (λ k ts l. ap (λ t. children_in (out-Node t)) (spanless_tree k ts) ∙ ap children_in (outs-Tree k (map spanless ts)) ∙ sym (ap (λ y. map spanless (children_in y)) (outs-Tree k ts))) t

child_spanless : (t : Node) (n : ℕ) → child (spanless t) n ≡ option_map spanless (child t n)
child_spanless t n = ap (λ l. slice_get l n) (kids t) ∙ slice_get-map spanless (children_in (out-Node t)) n

-- ---- identifiers

name_there : (p : Path) (w v : Place) (t : Node) (k : Kind) (i : Ident) → place_at w t p ≡ Some (v, Identifier k i) → place_at w (spanless t) p ≡ Some (v, Identifier k (unspanned i))
name_there [] w v t k i h =
    ap (λ (q : Place × Node). Some (q.0, spanless q.1)) (some_same (w, t) (v, Identifier k i) h) ∙ ap (λ t. Some (v, t)) (spanless_name k i)
name_there (n ∷ p) w v t k i h =
    ap (λ o. given o None (λ c. place_at (place_below w (spanless t) n) c p)) (child_spanless t n)
    ∙ ap (λ v. given (option_map spanless (child t n)) None (λ c. place_at v c p)) (places_alike (spanless t) t (outline_spanless t) w n)
    ∙ by (λ x c. name_there p x v c k i) (child t n) h
  where
    by : ((x : Place) (c : Node) → place_at x c p ≡ Some (v, Identifier k i) → place_at x (spanless c) p ≡ Some (v, Identifier k (unspanned i)))
        → (o : Option Node) → given o None (λ c. place_at (place_below w t n) c p) ≡ Some (v, Identifier k i) → given (option_map spanless o) None (λ c. place_at (place_below w t n) c p) ≡ Some (v, Identifier k (unspanned i))
    by below None h = absurd (cc)
    by below (Some c) h = below (place_below w t n) c h

pub one_id : (t u : Node) → SameButForSpans t u → (p : Path) (w v x : Place) (k l : Kind) (i j : Ident) → place_at x t p ≡ Some (w, Identifier k i) → place_at x u p ≡ Some (v, Identifier l j) → SameId i j
one_id t u e p w v x k l i j h g =
    let both = some_same (w, Identifier k (unspanned i)) (v, Identifier l (unspanned j)) (sym (name_there p x w t k i h) ∙ ap (λ t. place_at x t p) e ∙ name_there p x v u l j g) in
    let one : unspanned i ≡ unspanned j = identifier_same k l (unspanned i) (unspanned j) (ap (λ (q : Place × Node). q.1) both) in
    (ap (λ (i : Ident). i.sym) one, ap (λ (i : Ident). i.ctxt) one)
