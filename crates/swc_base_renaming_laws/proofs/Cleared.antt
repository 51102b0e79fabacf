-- A tree whose contexts are emptied: its outline, and the identifiers at its paths.
use Rattle.std.proofs.Common.{◌≡◌, ℕ, Option, Some, None, List, [], ◌∷◌, map, sym, ap, ◌∙◌}
use Rattle.std.specs.Prelude.{option_map, slice_get}
use Rattle.std.proofs.lemmas.Option.{slice_get-map}
use Rattle.swc_tree_marks.specs.declared.ident.Ident.{Ident}
use Rattle.swc_tree_node.specs.declared.kind.Kind.{Kind}
use Rattle.swc_tree_node.specs.declared.node.Node.{Node, List as Many, Identifier, Tree, out-Node}
use Rattle.swc_tree_node.specs.declared.node.Node.TheVariants.{outs-Absent, outs-Flag, outs-Word, outs-Text, outs-Span, outs-List, outs-Identifier, outs-Tree}
use Rattle.swc_tree_scoping.specs.declared.places.Place.{Place}
use Rattle.swc_tree_scoping.specs.Places.{Path, child, children_in, given, place_at, place_below}
use Rattle.swc_tree_scoping.specs.Readings.{by_texts}
use Rattle.swc_tree_grammar.proofs.Induction.{Each, by_children}
use Rattle.swc_tree_grammar_texts.proofs.Cleared.{bare, each_same, map_after, text_absent, text_flag, text_list, text_name, text_span, text_text, text_tree, text_word}
use Rattle.swc_base_rename_laws.specs.NewNames.{outline}
use Rattle.swc_base_rename_laws.proofs.Outline.{outline_identifier, outline_list, outline_tree, pair_same, places_alike}

-- ---- outlines

abbrev Same : Node → Type 0
Same t = outline (by_texts t) ≡ outline t

all_same : (ts : List Node) → Each Same ts → map outline (map by_texts ts) ≡ map outline ts
all_same ts l = map_after outline by_texts ts ∙ each_same (λ t. outline (by_texts t)) outline ts l

pub outline_texts : (t : Node) → Same t
outline_texts t = by_children Same (
  ap outline text_absent,
  λ x. ap outline (text_flag x),
  λ w. ap outline (text_word w),
  λ x. ap outline (text_text x),
  λ s. ap outline (text_span s),
  λ k i. ap outline (text_name k i) ∙ outline_identifier k (bare i) ∙ sym (outline_identifier k i),
)
    (λ ts l. ap outline (text_list ts) ∙ outline_list (map by_texts ts) ∙ ap Many (all_same ts l) ∙ sym (outline_list ts))
    (λ k ts l. ap outline (text_tree k ts) ∙ outline_tree k (map by_texts ts) ∙ ap (Tree k) (all_same ts l) ∙ sym (outline_tree k ts)) t

-- ---- children

abbrev Kids : Node → Type 0
Kids t = children_in (out-Node (by_texts t)) ≡ map by_texts (children_in (out-Node t))

alone : (t u : Node) → by_texts t ≡ u → children_in (out-Node u) ≡ [] → children_in (out-Node t) ≡ [] → Kids t
alone t u e f g = ap (λ t. children_in (out-Node t)) e ∙ f ∙ sym (ap (map by_texts) g)

kids : (t : Node) → Kids t
kids t = by_children Kids (
  alone _ _ text_absent (ap children_in outs-Absent) (ap children_in outs-Absent),
  λ x. alone _ _ (text_flag x) (ap children_in (outs-Flag x)) (ap children_in (outs-Flag x)),
  λ w. alone _ _ (text_word w) (ap children_in (outs-Word w)) (ap children_in (outs-Word w)),
  λ x. alone _ _ (text_text x) (ap children_in (outs-Text x)) (ap children_in (outs-Text x)),
  λ s. alone _ _ (text_span s) (ap children_in (outs-Span s)) (ap children_in (outs-Span s)),
  λ k i. alone _ _ (text_name k i) (ap children_in (outs-Identifier k (bare i))) (ap children_in (outs-Identifier k i)),
)
    (λ ts l. ap (λ t. children_in (out-Node t)) (text_list ts) ∙ ap children_in (outs-List (map by_texts ts)) ∙ sym (ap (λ y. map by_texts (children_in y)) (outs-List ts)))
    (λ k ts l. ap (λ t. children_in (out-Node t)) (text_tree k ts) ∙ ap children_in (outs-Tree k (map by_texts ts)) ∙ sym (ap (λ y. map by_texts (children_in y)) (outs-Tree k ts))) t

child_texts : (t : Node) (n : ℕ) → child (by_texts t) n ≡ option_map by_texts (child t n)
child_texts t n = ap (λ l. slice_get l n) (kids t) ∙ slice_get-map by_texts (children_in (out-Node t)) n

-- ---- identifiers

pub bare_there : (p : Path) (w v : Place) (t : Node) (k : Kind) (i : Ident) → place_at w t p ≡ Some (v, Identifier k i) → place_at w (by_texts t) p ≡ Some (v, Identifier k (bare i))
bare_there [] w v t k i h =
    ap (λ (q : Place × Node). Some (q.0, by_texts q.1)) (pair_same (w, t) (v, Identifier k i) h) ∙ ap (λ t. Some (v, t)) (text_name k i)
bare_there (n ∷ p) w v t k i h =
    ap (λ o. given o None (λ c. place_at (place_below w (by_texts t) n) c p)) (child_texts t n)
    ∙ ap (λ v. given (option_map by_texts (child t n)) None (λ c. place_at v c p)) (places_alike (by_texts t) t (outline_texts t) w n)
    ∙ by (λ x c. bare_there p x v c k i) (child t n) h
  where
    by : ((x : Place) (c : Node) → place_at x c p ≡ Some (v, Identifier k i) → place_at x (by_texts c) p ≡ Some (v, Identifier k (bare i)))
        → (o : Option Node) → given o None (λ c. place_at (place_below w t n) c p) ≡ Some (v, Identifier k i) → given (option_map by_texts o) None (λ c. place_at (place_below w t n) c p) ≡ Some (v, Identifier k (bare i))
    by below None h = absurd (cc)
    by below (Some c) h = below (place_below w t n) c h
