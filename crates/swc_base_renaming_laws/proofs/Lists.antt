-- What expressions of a list meet, within a whole: so it is of the items that a sequence leaves.
use Rattle.std.proofs.Common.{◌≡◌, ℕ, suc, zero, Bool, true, false, not, None, List, [], ◌∷◌, ◌++◌, refl, sym, ap, ◌∙◌, subst, cond}
use Rattle.std.specs.List.{filter, flat_map, list_all}
use Rattle.std.specs.Prelude.{take}
use Rattle.swc_tree_node.specs.declared.kind.Kind.{Kind}
use Rattle.swc_tree_node.specs.declared.kind.Kind.TheVariants as kind
use Rattle.swc_tree_node.specs.declared.kind.Class.TheVariants as class
use Rattle.swc_tree_node.specs.declared.slot.Content.TheVariants as content
use Rattle.swc_tree_node.specs.declared.slot.Slot.{Slot}
use Rattle.swc_tree_node.specs.declared.slot.Slot.TheVariants as slot
use Rattle.swc_tree_node.specs.declared.node.Node.{Node, List as Many, Identifier, Tree, out-Node}
use Rattle.swc_tree_node.specs.declared.node.Node.TheOpen.{Node-F}
use Rattle.swc_tree_node.specs.declared.node.Node.TheVariants.{outs-List, outs-Tree}
use Rattle.swc_tree_node.specs.Fits.{AllFit, Fits}
use Rattle.swc_tree_node.proofs.Fit.{fits-Absent, fits-Flag, fits-Word, fits-Text, fits-Span, fits-List, fits-Identifier, fits-Tree, list_opens, tree_opens}
use Rattle.swc_tree_scoping.specs.declared.places.Standing.TheVariants as standing
use Rattle.swc_tree_scoping.specs.declared.places.Place.{Place}
use Rattle.swc_tree_scoping.specs.Places.{binds_patterns, place_in}
use Rattle.swc_tree_scoping.specs.Folds.{each_in}
use Rattle.swc_tree_scoping.proofs.Remarked.{tree_is}
use Rattle.swc_tree_grammar.specs.Shapes.{items_of}
use Rattle.swc_tree_grammar.specs.Stripped.{busy, effects, end, front, is_idle, is_void, parts, parts_in, sequence, settled}
use Rattle.swc_tree_grammar.proofs.Induction.{Each, by_children}
use Rattle.swc_tree_grammar.proofs.Items.{expr, flat_fit, items_of_list, listed}
use Rattle.swc_tree_grammar.proofs.Stripped.{effects_of_identifier, effects_of_list, effects_of_other, effects_of_sequence, effects_of_tree, effects_of_void}
use Rattle.swc_tree_sites.proofs.Kept.{item_place}
use Rattle.swc_base_renaming_laws.specs.Meetings.{Met, both, items_met, nothing}
use Rattle.swc_base_renaming_laws.proofs.Meets.{M, out_is}
use Rattle.swc_base_renaming_laws.proofs.Within.{Within, both_twice, both_within, left_within, nothing_within, right_within, within_same, within_through}
use Rattle.swc_base_renaming_laws.proofs.Expressions.{T}

pub into : (a b c : Met) → Within a c → Within b c → Within (both a b) c
into a b c h g = within_through (both a b) (both c c) c (both_within a c b c h g) (both_twice c)

-- ---- nodes of a list in one place

module _ (w : Place) where
  abbrev pub all_at : List Node → Met
  all_at [] = nothing
  all_at (t ∷ ts) = both (M w t false None) (all_at ts)

  abbrev pub EachIn : List Node → Met → Type 0
  EachIn [] m = Unit {0}
  EachIn (t ∷ ts) m = Within (M w t false None) m × EachIn ts m

  pub all_in : (ts : List Node) (m : Met) → EachIn ts m → Within (all_at ts) m
  all_in [] m h = nothing_within m
  all_in (t ∷ ts) m h = into (M w t false None) (all_at ts) m h.0 (all_in ts m h.1)

  pub each_through : (ts : List Node) (a b : Met) → Within a b → EachIn ts a → EachIn ts b
  each_through [] a b h e = tt
  each_through (t ∷ ts) a b h e = (within_through (M w t false None) a b e.0 h, each_through ts a b h e.1)

  pub each_all : (ts : List Node) → EachIn ts (all_at ts)
  each_all [] = tt
  each_all (t ∷ ts) = (
    left_within (M w t false None) (M w t false None) (all_at ts) (within_same (M w t false None)),
    each_through ts (all_at ts) (both (M w t false None) (all_at ts)) (right_within (all_at ts) (M w t false None) (all_at ts) (within_same (all_at ts))) (each_all ts),
  )

  pub each_append : (ts us : List Node) (m : Met) → EachIn ts m → EachIn us m → EachIn (ts ++ us) m
  each_append [] us m h g = g
  each_append (t ∷ ts) us m h g = (h.0, each_append ts us m h.1 g)

  pub each_filter : (f : Node → Bool) (ts : List Node) (m : Met) → EachIn ts m → EachIn (filter f ts) m
  each_filter f [] m h = tt
  each_filter f (t ∷ ts) m h = next (f t) (each_filter f ts m h.1)
    where
      next : (b : Bool) → EachIn (filter f ts) m → EachIn (cond b (t ∷ filter f ts) (filter f ts)) m
      next true rest = (h.0, rest)
      next false rest = rest

  each_first : (ts : List Node) (m : Met) → EachIn ts m → EachIn (take 1 ts) m
  each_first [] m h = tt
  each_first (t ∷ ts) m h = (h.0, tt)

  each_busy : (ts : List Node) (m : Met) → EachIn ts m → EachIn (busy ts) m
  each_busy ts m h = next (list_all is_idle ts)
    where
      next : (b : Bool) → EachIn (cond b (take 1 ts) (filter (λ e. not (is_idle e)) ts)) m
      next true = each_first ts m h
      next false = each_filter (λ e. not (is_idle e)) ts m h

  each_front : (ts : List Node) (m : Met) → EachIn ts m → EachIn (front ts) m
  each_front [] m h = tt
  each_front (t ∷ []) m h = tt
  each_front (t ∷ u ∷ ts) m h = (h.0, each_front (u ∷ ts) m h.1)

  each_end : (ts : List Node) (m : Met) → EachIn ts m → EachIn (end ts) m
  each_end [] m h = tt
  each_end (t ∷ []) m h = h
  each_end (t ∷ u ∷ ts) m h = each_end (u ∷ ts) m h.1

  placed_in : (places : ℕ → Place) (ts : List Node) → ((i : ℕ) → places i ≡ w) → items_met (each_in M places ts) ≡ all_at ts
  placed_in places [] h = refl
  placed_in places (t ∷ ts) h =
      ap (λ v. both (M v t false None) (items_met (each_in M (λ i. places (suc i)) ts))) (h zero) ∙ ap (both (M w t false None)) (placed_in (λ i. places (suc i)) ts (λ i. h (suc i)))

  pub of_list : (ts : List Node) → binds_patterns w.standing ≡ false → M w (Many ts) false None ≡ all_at ts
  of_list ts h = out_is w (Many ts) (Node-F.List ts) false None (outs-List ts) ∙ placed_in (place_in w (Node-F.List ts)) ts (λ i. item_place w ts i h)

-- ---- expressions

abbrev pub E : Place
E = T standing.Reference

abbrev pub Q : Place
Q = T standing.Plain

abbrev pub X : Node → Met
X t = M E t false None

abbrev pub list_expr : Slot
list_expr = slot.List (content.Node class.Expr)

pub of_sequence : (w : Place) (a e : Node) → w ≡ T w.standing → M w (Tree kind.SeqExpr (a ∷ e ∷ [])) false None ≡ both (M Q a false None) (both (X e) nothing)
of_sequence w a e same = ap (λ w. M w (Tree kind.SeqExpr (a ∷ e ∷ [])) false None) same ∙ out_is (T w.standing) (Tree kind.SeqExpr (a ∷ e ∷ [])) (Node-F.Tree kind.SeqExpr (a ∷ e ∷ [])) false None (outs-Tree kind.SeqExpr (a ∷ e ∷ []))

of_unary : (a o e : Node) → X (Tree kind.UnaryExpr (a ∷ o ∷ e ∷ [])) ≡ both (M Q a false None) (both (M Q o false None) (both (X e) nothing))
of_unary a o e = out_is E (Tree kind.UnaryExpr (a ∷ o ∷ e ∷ [])) (Node-F.Tree kind.UnaryExpr (a ∷ o ∷ e ∷ [])) false None (outs-Tree kind.UnaryExpr (a ∷ o ∷ e ∷ []))

pub sequence_has : (a e : Node) → Within (X e) (X (Tree kind.SeqExpr (a ∷ e ∷ [])))
sequence_has a e = subst (Within (X e)) (sym (of_sequence E a e refl)) (right_within (X e) (M Q a false None) (both (X e) nothing) (left_within (X e) (X e) nothing (within_same (X e))))

unary_has : (a o e : Node) → Within (X e) (X (Tree kind.UnaryExpr (a ∷ o ∷ e ∷ [])))
unary_has a o e = subst (Within (X e)) (sym (of_unary a o e))
    (right_within (X e) (M Q a false None) (both (M Q o false None) (both (X e) nothing)) (right_within (X e) (M Q o false None) (both (X e) nothing) (left_within (X e) (X e) nothing (within_same (X e)))))

alone : (t : Node) → EachIn E (t ∷ []) (X t)
alone t = (within_same (X t), tt)

-- what is left of an expression where its value is dropped
abbrev Drops : Node → Type 0
Drops t = (Fits t expr → EachIn E (effects t) (X t)) × (Fits t list_expr → EachIn E (effects t) (X t))

each_drops : (ts : List Node) (m : Met) → Each Drops ts → AllFit expr ts → EachIn E ts m → EachIn E (flat_map effects ts) m
each_drops [] m l f h = tt
each_drops (t ∷ ts) m l f h = each_append E (effects t) (flat_map effects ts) m (each_through E (effects t) (X t) m h.0 (l.0.0 f.0)) (each_drops ts m l.1 f.1 h.1)

list_drops : (ts : List Node) → Each Drops ts → AllFit expr ts → EachIn E (effects (Many ts)) (X (Many ts))
list_drops ts l f = subst (λ es. EachIn E es (X (Many ts))) (sym (effects_of_list ts)) (each_drops ts (X (Many ts)) l f (subst (EachIn E ts) (sym (of_list E ts refl)) (each_all E ts)))

void_drops : (b : Bool) (span op arg : Node) → is_void op ≡ b → Fits (Tree kind.UnaryExpr (span ∷ op ∷ arg ∷ [])) expr → Drops arg → EachIn E (effects (Tree kind.UnaryExpr (span ∷ op ∷ arg ∷ []))) (X (Tree kind.UnaryExpr (span ∷ op ∷ arg ∷ [])))
void_drops true span op arg e f l =
    let fields = (tree_opens kind.UnaryExpr (span ∷ op ∷ arg ∷ []) class.Expr f).2 in
    subst (λ es. EachIn E es (X (Tree kind.UnaryExpr (span ∷ op ∷ arg ∷ [])))) (sym (effects_of_void span op arg e))
    (each_through E (effects arg) (X arg) (X (Tree kind.UnaryExpr (span ∷ op ∷ arg ∷ []))) (unary_has span op arg) (l.0 fields.1.1.0))
void_drops false span op arg e f l = subst (λ es. EachIn E es (X (Tree kind.UnaryExpr (span ∷ op ∷ arg ∷ [])))) (sym (effects_of_other span op arg e)) (alone (Tree kind.UnaryExpr (span ∷ op ∷ arg ∷ [])))

tree_drops : (k : Kind) (ts : List Node) → Each Drops ts → Fits (Tree k ts) expr → EachIn E (effects (Tree k ts)) (X (Tree k ts))
tree_drops kind.SeqExpr (span ∷ exprs ∷ []) l f =
    let fields = (tree_opens kind.SeqExpr (span ∷ exprs ∷ []) class.Expr f).2 in
    subst (λ es. EachIn E es (X (Tree kind.SeqExpr (span ∷ exprs ∷ [])))) (sym (effects_of_sequence span exprs))
    (each_through E (effects exprs) (X exprs) (X (Tree kind.SeqExpr (span ∷ exprs ∷ []))) (sequence_has span exprs) (l.1.0.1 fields.1.0))
tree_drops kind.UnaryExpr (span ∷ op ∷ arg ∷ []) l f = void_drops (is_void op) span op arg refl f l.1.1.0
tree_drops k ts l f = subst (λ es. EachIn E es (X (Tree k ts))) (sym (effects_of_tree k ts)) (alone (Tree k ts))

drops : (t : Node) → Drops t
drops t = by_children Drops (
  (λ f. absurd (cc (sym (fits-Absent expr) ∙ f)), λ f. absurd (cc (sym (fits-Absent list_expr) ∙ f))),
  λ x. (λ f. absurd (cc (sym (fits-Flag x expr) ∙ f)), λ f. absurd (cc (sym (fits-Flag x list_expr) ∙ f))),
  λ w. (λ f. absurd (cc (sym (fits-Word w expr) ∙ f)), λ f. absurd (cc (sym (fits-Word w list_expr) ∙ f))),
  λ x. (λ f. absurd (cc (sym (fits-Text x expr) ∙ f)), λ f. absurd (cc (sym (fits-Text x list_expr) ∙ f))),
  λ r. (λ f. absurd (cc (sym (fits-Span r expr) ∙ f)), λ f. absurd (cc (sym (fits-Span r list_expr) ∙ f))),
  λ k i. (λ f. subst (λ es. EachIn E es (X (Identifier k i))) (sym (effects_of_identifier k i)) (alone (Identifier k i)), λ f. absurd (cc (sym (fits-Identifier k i list_expr) ∙ f))),
)
    (λ ts l. (λ f. absurd (cc (sym (fits-List ts expr) ∙ f)), λ f. list_drops ts l (list_opens ts (content.Node class.Expr) f)))
    (λ k ts l. (λ f. tree_drops k ts l f, λ f. absurd (cc (sym (fits-Tree k ts list_expr) ∙ f)))) t

flat_drops : (ts : List Node) (m : Met) → AllFit expr ts → EachIn E ts m → EachIn E (flat_map effects ts) m
flat_drops [] m f h = tt
flat_drops (t ∷ ts) m f h = each_append E (effects t) (flat_map effects ts) m (each_through E (effects t) (X t) m h.0 ((drops t).0 f.0)) (flat_drops ts m f.1 h.1)

front_fit : (ts : List Node) → AllFit expr ts → AllFit expr (front ts)
front_fit [] h = tt
front_fit (t ∷ []) h = tt
front_fit (t ∷ u ∷ ts) h = (h.0, front_fit (u ∷ ts) h.1)

each_settled : (ts : List Node) (m : Met) → AllFit expr ts → EachIn E ts m → EachIn E (settled ts) m
each_settled ts m f h =
    each_append E (busy (flat_map effects (front ts))) (end ts) m (each_busy E (flat_map effects (front ts)) m (flat_drops (front ts) m (front_fit ts f) (each_front E ts m h))) (each_end E ts m h)

-- the parts of the items
each_parts : (t : Node) → Fits t expr → EachIn E (parts t) (X t)
each_parts t f = by (out-Node t) refl
  where
    by : (y : Node-F Node) → out-Node t ≡ y → EachIn E (parts_in t y) (X t)
    by (Node-F.Tree kind.SeqExpr (span ∷ exprs ∷ [])) o =
        let is = tree_is t kind.SeqExpr (span ∷ exprs ∷ []) o in
        let fields = (tree_opens kind.SeqExpr (span ∷ exprs ∷ []) class.Expr (subst (λ t. Fits t expr) is f)).2 in
        let l = listed exprs (content.Node class.Expr) fields.1.0 in
        let items : items_of exprs ≡ l.items = ap items_of l.is ∙ items_of_list l.items in
        let inner : EachIn E l.items (X exprs) = subst (EachIn E l.items) (sym (ap X l.is ∙ of_list E l.items refl)) (each_all E l.items) in
        subst (λ t. EachIn E (items_of exprs) (X t)) (sym is) (each_through E (items_of exprs) (X exprs) (X (Tree kind.SeqExpr (span ∷ exprs ∷ []))) (sequence_has span exprs) (subst (λ es. EachIn E es (X exprs)) (sym items) inner))
    by (Node-F.Tree kind.SeqExpr []) o = alone t
    by (Node-F.Tree kind.SeqExpr (a ∷ [])) o = alone t
    by (Node-F.Tree kind.SeqExpr (a ∷ b ∷ c ∷ ts)) o = alone t
    by (Node-F.Tree k ts) o = alone t
    by (Node-F.List ts) o = alone t
    by (Node-F.Identifier k i) o = alone t
    by Node-F.Absent o = alone t
    by (Node-F.Flag x) o = alone t
    by (Node-F.Word x) o = alone t
    by (Node-F.Text x) o = alone t
    by (Node-F.Span x) o = alone t

flat_parts : (ts : List Node) (m : Met) → AllFit expr ts → EachIn E ts m → EachIn E (flat_map parts ts) m
flat_parts [] m f h = tt
flat_parts (t ∷ ts) m f h = each_append E (parts t) (flat_map parts ts) m (each_through E (parts t) (X t) m h.0 (each_parts t f.0)) (flat_parts ts m f.1 h.1)

-- a sequence of items
sequence_in : (span : Node) (ts : List Node) (m : Met) → Within (M Q span false None) m → EachIn E ts m → Within (X (sequence span ts)) m
sequence_in span ts m q h = by ts h
  where
    whole : (ts : List Node) → EachIn E ts m → Within (X (Tree kind.SeqExpr (span ∷ Many ts ∷ []))) m
    whole ts h = subst (λ (a : Met). Within a m) (sym (of_sequence E span (Many ts) refl))
        (into (M Q span false None) (both (X (Many ts)) nothing) m q (into (X (Many ts)) nothing m (subst (λ (a : Met). Within a m) (sym (of_list E ts refl)) (all_in E ts m h)) (nothing_within m)))

    by : (ts : List Node) → EachIn E ts m → Within (X (sequence span ts)) m
    by [] h = whole [] h
    by (t ∷ []) h = h.0
    by (t ∷ u ∷ ts) h = whole (t ∷ u ∷ ts) h

pub settled_in : (span : Node) (ts : List Node) (m : Met) → AllFit expr ts → Within (M Q span false None) m → EachIn E ts m → Within (X (sequence span (settled (flat_map parts ts)))) m
settled_in span ts m f q h = sequence_in span (settled (flat_map parts ts)) m q (each_settled (flat_map parts ts) m (flat_fit ts f) (flat_parts ts m f h))
