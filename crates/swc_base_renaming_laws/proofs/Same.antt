-- Sameness but for bound names, read of a program without contexts.
use Rattle.std.proofs.Common.{◌≡◌, ℕ, zero, suc, Bool, true, false, ◌&&◌, ◌||◌, ◌==◌, IsTrue, Some, List, [], ◌∷◌, ◌++◌, map, refl, sym, ap, ◌∙◌, subst, cond}
use Rattle.std.specs.Prelude.{nat_eq}
use Rattle.std.specs.List.{flat_map, list_any, slice_get}
use Rattle.std.specs.Cmp.Lexicographic.{pointwise}
use Rattle.std.proofs.lemmas.List.{map-append}
use Rattle.swc_tree_marks.specs.declared.ident.Ident.{Ident}
use Rattle.swc_tree_node.specs.declared.kind.Kind.{Kind}
use Rattle.swc_tree_node.specs.declared.node.Node.{Node, out-Node}
use Rattle.swc_tree_node.specs.declared.node.Node.TheOpen.{Node-F}
use Rattle.swc_tree_node.specs.Table.{kind_number}
use Rattle.swc_tree_node.proofs.Fit.{and_both, both as both_are}
use Rattle.swc_tree_scoping.specs.declared.places.Standing.{Standing}
use Rattle.swc_tree_scoping.specs.declared.places.Place.{Place}
use Rattle.swc_tree_scoping.specs.Places.{children_in, place_below, program_place}
use Rattle.swc_tree_scoping.specs.Scopes.{is_binding, is_name}
use Rattle.swc_tree_scoping.specs.Folds.{each_in, fold_in_place}
use Rattle.swc_tree_scoping.specs.Readings.{by_texts, with_identifiers}
use Rattle.swc_tree_scoping.proofs.Under.{by_children, fold_in_place_out}
use Rattle.swc_tree_renaming.proofs.Blank.{layer, out_is, place_same}
use Rattle.swc_tree_grammar.specs.Normal.{normal_form, same_id}
use Rattle.swc_tree_grammar.specs.Same.{bound_in, declared_names, declared_step, each_same, same_in, same_step, same_tree}
use Rattle.swc_base_renaming_laws.specs.Source.{SamenessNeedsNoContexts}

abbrev clear : Ident → Ident
clear i = record i { ctxt = [] }

abbrev B : Node → Node
B = with_identifiers clear

-- ---- the names that are declared

abbrev declared : Place → Node → List Ident
declared = fold_in_place declared_step

all_map : (xs : List (List Ident)) → flat_map (λ (x : List Ident). x) (map (map clear) xs) ≡ map clear (flat_map (λ (x : List Ident). x) xs)
all_map [] = refl
all_map (x ∷ xs) = ap (λ l. map clear x ++ l) (all_map xs) ∙ sym (map-append clear x (flat_map (λ (x : List Ident). x) xs))

bound_if : (i : Ident) (b : Bool) → cond b (clear i ∷ []) [] ≡ map clear (cond b (i ∷ []) [])
bound_if i true = refl
bound_if i false = refl

bound_same : (s : Standing) (y : Node-F Node) → bound_in s (layer clear y) ≡ map clear (bound_in s y)
bound_same s (Node-F.Identifier k i) = bound_if i (is_binding s)
bound_same s Node-F.Absent = refl
bound_same s (Node-F.Flag x) = refl
bound_same s (Node-F.Word x) = refl
bound_same s (Node-F.Text x) = refl
bound_same s (Node-F.Span x) = refl
bound_same s (Node-F.List ts) = refl
bound_same s (Node-F.Tree k ts) = refl

children_same : (y : Node-F Node) → children_in (layer clear y) ≡ map B (children_in y)
children_same (Node-F.Identifier k i) = refl
children_same Node-F.Absent = refl
children_same (Node-F.Flag x) = refl
children_same (Node-F.Word x) = refl
children_same (Node-F.Text x) = refl
children_same (Node-F.Span x) = refl
children_same (Node-F.List ts) = refl
children_same (Node-F.Tree k ts) = refl

children_of : (t : Node) → children_in (out-Node (B t)) ≡ map B (children_in (out-Node t))
children_of t = ap children_in (out_is clear t) ∙ children_same (out-Node t)

abbrev Declared : Node → Type 0
Declared t = (w : Place) → declared w (B t) ≡ map clear (declared w t)

each_declared : (ts : List Node) (ps qs : ℕ → Place) → ((i : ℕ) → ps i ≡ qs i) → ((i : ℕ) (c : Node) → slice_get ts i ≡ Some c → Declared c) → each_in declared ps (map B ts) ≡ map (map clear) (each_in declared qs ts)
each_declared [] ps qs same h = refl
each_declared (t ∷ ts) ps qs same h =
    ap (λ w. declared w (B t) ∷ each_in declared (λ i. ps (suc i)) (map B ts)) (same zero)
    ∙ ap (λ l. l ∷ each_in declared (λ i. ps (suc i)) (map B ts)) (h zero t refl (qs zero))
    ∙ ap (λ l. map clear (declared (qs zero) t) ∷ l) (each_declared ts (λ i. ps (suc i)) (λ i. qs (suc i)) (λ i. same (suc i)) (λ i. h (suc i)))

declared_by : (t : Node) → Declared t
declared_by t = by_children Declared (λ t below w.
    fold_in_place_out declared_step w (B t)
    ∙ ap (λ y. bound_in w.standing y ++ flat_map (λ (x : List Ident). x) (each_in declared (place_below w (B t)) (children_in (out-Node (B t))))) (out_is clear t)
    ∙ ap (λ l. l ++ flat_map (λ (x : List Ident). x) (each_in declared (place_below w (B t)) (children_in (out-Node (B t))))) (bound_same w.standing (out-Node t))
    ∙ ap (λ l. map clear (bound_in w.standing (out-Node t)) ++ flat_map (λ (x : List Ident). x) (each_in declared (place_below w (B t)) l)) (children_of t)
    ∙ ap (λ l. map clear (bound_in w.standing (out-Node t)) ++ flat_map (λ (x : List Ident). x) l) (each_declared (children_in (out-Node t)) (place_below w (B t)) (place_below w t) (λ i. place_same clear w t i) below)
    ∙ ap (λ l. map clear (bound_in w.standing (out-Node t)) ++ l) (all_map (each_in declared (place_below w t) (children_in (out-Node t))))
    ∙ sym (map-append clear (bound_in w.standing (out-Node t)) (flat_map (λ (x : List Ident). x) (each_in declared (place_below w t) (children_in (out-Node t)))))
    ∙ ap (map clear) (sym (fold_in_place_out declared_step w t))) t

-- ---- an id that is declared

cleared_id : (i d : Ident) → IsTrue (same_id i d) → IsTrue (same_id (clear i) (clear d))
cleared_id i d h = and_both (pointwise nat_eq i.sym d.sym) true (both_are (pointwise nat_eq i.sym d.sym) (pointwise nat_eq i.ctxt d.ctxt) h).0 refl

or_kept : (a b c d : Bool) → (IsTrue a → IsTrue c) → (IsTrue b → IsTrue d) → IsTrue (a || b) → IsTrue (c || d)
or_kept true b true d f g h = refl
or_kept true b false d f g h = absurd (cc (f refl))
or_kept false b true d f g h = refl
or_kept false b false d f g h = g h

any_kept : (i : Ident) (ds : List Ident) → IsTrue (list_any (same_id i) ds) → IsTrue (list_any (same_id (clear i)) (map clear ds))
any_kept i [] h = h
any_kept i (d ∷ ds) h = or_kept (same_id i d) (list_any (same_id i) ds) (same_id (clear i) (clear d)) (list_any (same_id (clear i)) (map clear ds)) (cleared_id i d) (any_kept i ds) h

and_kept : (n p q : Bool) → (IsTrue p → IsTrue q) → IsTrue (n && p) → IsTrue (n && q)
and_kept true p q f h = f h
and_kept false p q f h = h

-- ---- trees

module _ (names : List Ident) where
  abbrev at : Place → Node → Node → Bool
  at = fold_in_place (same_step names)

  abbrev at_texts : Place → Node → Node → Bool
  at_texts = fold_in_place (same_step (map clear names))

  abbrev Kept : Node → Type 0
  Kept t = (w : Place) (u : Node) → IsTrue (at w t u) → IsTrue (at_texts w (B t) u)

  each_kept : (ts us : List Node) (ps qs : ℕ → Place) → ((i : ℕ) → ps i ≡ qs i) → ((i : ℕ) (c : Node) → slice_get ts i ≡ Some c → Kept c)
      → IsTrue (each_same (each_in at qs ts) us) → IsTrue (each_same (each_in at_texts ps (map B ts)) us)
  each_kept [] [] ps qs same below h = refl
  each_kept [] (u ∷ us) ps qs same below h = h
  each_kept (t ∷ ts) [] ps qs same below h = h
  each_kept (t ∷ ts) (u ∷ us) ps qs same below h =
      let z = both_are (at (qs zero) t u) (each_same (each_in at (λ i. qs (suc i)) ts) us) h in
      and_both (at_texts (ps zero) (B t) u) (each_same (each_in at_texts (λ i. ps (suc i)) (map B ts)) us)
      (subst (λ w. IsTrue (at_texts w (B t) u)) (sym (same zero)) (below zero t refl (qs zero) u z.0))
      (each_kept ts us (λ i. ps (suc i)) (λ i. qs (suc i)) (λ i. same (suc i)) (λ i. below (suc i)) z.1)

  abbrev Layers : Standing → Node-F Node → (ℕ → Place) → (ℕ → Place) → Node-F Node → Type 0
  Layers s y ps qs z = IsTrue (same_in names s (each_in at qs (children_in y)) y z) → IsTrue (same_in (map clear names) s (each_in at_texts ps (map B (children_in y))) (layer clear y) z)

  named : (s : Standing) (k l : Kind) (i j : Ident) → IsTrue ((kind_number k == kind_number l) && (pointwise nat_eq i.sym j.sym || (is_name s && list_any (same_id i) names)))
      → IsTrue ((kind_number k == kind_number l) && (pointwise nat_eq i.sym j.sym || (is_name s && list_any (same_id (clear i)) (map clear names))))
  named s k l i j h = and_kept (kind_number k == kind_number l) _ _
      (or_kept (pointwise nat_eq i.sym j.sym) _ (pointwise nat_eq i.sym j.sym) _ (λ h. h) (and_kept (is_name s) _ _ (any_kept i names))) h

  layers : (s : Standing) (y z : Node-F Node) (ps qs : ℕ → Place) → ((i : ℕ) → ps i ≡ qs i) → ((i : ℕ) (c : Node) → slice_get (children_in y) i ≡ Some c → Kept c) → Layers s y ps qs z
  layers s (Node-F.Identifier k i) (Node-F.Identifier l j) ps qs same below h = named s k l i j h
  layers s (Node-F.Identifier k i) Node-F.Absent ps qs same below h = h
  layers s (Node-F.Identifier k i) (Node-F.Flag x) ps qs same below h = h
  layers s (Node-F.Identifier k i) (Node-F.Word x) ps qs same below h = h
  layers s (Node-F.Identifier k i) (Node-F.Text x) ps qs same below h = h
  layers s (Node-F.Identifier k i) (Node-F.Span x) ps qs same below h = h
  layers s (Node-F.Identifier k i) (Node-F.List us) ps qs same below h = h
  layers s (Node-F.Identifier k i) (Node-F.Tree l us) ps qs same below h = h
  layers s (Node-F.List ts) (Node-F.List us) ps qs same below h = each_kept ts us ps qs same below h
  layers s (Node-F.List ts) (Node-F.Identifier l j) ps qs same below h = h
  layers s (Node-F.List ts) Node-F.Absent ps qs same below h = h
  layers s (Node-F.List ts) (Node-F.Flag x) ps qs same below h = h
  layers s (Node-F.List ts) (Node-F.Word x) ps qs same below h = h
  layers s (Node-F.List ts) (Node-F.Text x) ps qs same below h = h
  layers s (Node-F.List ts) (Node-F.Span x) ps qs same below h = h
  layers s (Node-F.List ts) (Node-F.Tree l us) ps qs same below h = h
  layers s (Node-F.Tree k ts) (Node-F.Tree l us) ps qs same below h = and_kept (kind_number k == kind_number l) _ _ (each_kept ts us ps qs same below) h
  layers s (Node-F.Tree k ts) (Node-F.Identifier l j) ps qs same below h = h
  layers s (Node-F.Tree k ts) Node-F.Absent ps qs same below h = h
  layers s (Node-F.Tree k ts) (Node-F.Flag x) ps qs same below h = h
  layers s (Node-F.Tree k ts) (Node-F.Word x) ps qs same below h = h
  layers s (Node-F.Tree k ts) (Node-F.Text x) ps qs same below h = h
  layers s (Node-F.Tree k ts) (Node-F.Span x) ps qs same below h = h
  layers s (Node-F.Tree k ts) (Node-F.List us) ps qs same below h = h
  layers s Node-F.Absent z ps qs same below h = leaf Node-F.Absent z refl h
    where
      leaf : (y z : Node-F Node) → y ≡ Node-F.Absent → IsTrue (same_in names s [] Node-F.Absent z) → IsTrue (same_in (map clear names) s [] Node-F.Absent z)
      leaf y Node-F.Absent e h = h
      leaf y (Node-F.Flag x) e h = h
      leaf y (Node-F.Word x) e h = h
      leaf y (Node-F.Text x) e h = h
      leaf y (Node-F.Span x) e h = h
      leaf y (Node-F.Identifier l j) e h = h
      leaf y (Node-F.List us) e h = h
      leaf y (Node-F.Tree l us) e h = h
  layers s (Node-F.Flag v) z ps qs same below h = leaf z h
    where
      leaf : (z : Node-F Node) → IsTrue (same_in names s [] (Node-F.Flag v) z) → IsTrue (same_in (map clear names) s [] (Node-F.Flag v) z)
      leaf Node-F.Absent h = h
      leaf (Node-F.Flag x) h = h
      leaf (Node-F.Word x) h = h
      leaf (Node-F.Text x) h = h
      leaf (Node-F.Span x) h = h
      leaf (Node-F.Identifier l j) h = h
      leaf (Node-F.List us) h = h
      leaf (Node-F.Tree l us) h = h
  layers s (Node-F.Word v) z ps qs same below h = leaf z h
    where
      leaf : (z : Node-F Node) → IsTrue (same_in names s [] (Node-F.Word v) z) → IsTrue (same_in (map clear names) s [] (Node-F.Word v) z)
      leaf Node-F.Absent h = h
      leaf (Node-F.Flag x) h = h
      leaf (Node-F.Word x) h = h
      leaf (Node-F.Text x) h = h
      leaf (Node-F.Span x) h = h
      leaf (Node-F.Identifier l j) h = h
      leaf (Node-F.List us) h = h
      leaf (Node-F.Tree l us) h = h
  layers s (Node-F.Text v) z ps qs same below h = leaf z h
    where
      leaf : (z : Node-F Node) → IsTrue (same_in names s [] (Node-F.Text v) z) → IsTrue (same_in (map clear names) s [] (Node-F.Text v) z)
      leaf Node-F.Absent h = h
      leaf (Node-F.Flag x) h = h
      leaf (Node-F.Word x) h = h
      leaf (Node-F.Text x) h = h
      leaf (Node-F.Span x) h = h
      leaf (Node-F.Identifier l j) h = h
      leaf (Node-F.List us) h = h
      leaf (Node-F.Tree l us) h = h
  layers s (Node-F.Span v) z ps qs same below h = leaf z h
    where
      leaf : (z : Node-F Node) → IsTrue (same_in names s [] (Node-F.Span v) z) → IsTrue (same_in (map clear names) s [] (Node-F.Span v) z)
      leaf Node-F.Absent h = h
      leaf (Node-F.Flag x) h = h
      leaf (Node-F.Word x) h = h
      leaf (Node-F.Text x) h = h
      leaf (Node-F.Span x) h = h
      leaf (Node-F.Identifier l j) h = h
      leaf (Node-F.List us) h = h
      leaf (Node-F.Tree l us) h = h

  kept : (t : Node) → Kept t
  kept t = by_children Kept (λ t below w u h.
      let whole : IsTrue (same_in names w.standing (each_in at (place_below w t) (children_in (out-Node t))) (out-Node t) (out-Node u)) = sym (ap (λ g. g u) (fold_in_place_out (same_step names) w t)) ∙ h in
      let step = layers w.standing (out-Node t) (out-Node u) (place_below w (B t)) (place_below w t) (λ i. place_same clear w t i) below whole in
      ap (λ g. g u) (fold_in_place_out (same_step (map clear names)) w (B t))
      ∙ ap (λ l. same_in (map clear names) w.standing (each_in at_texts (place_below w (B t)) l) (out-Node (B t)) (out-Node u)) (children_of t)
      ∙ ap (λ y. same_in (map clear names) w.standing (each_in at_texts (place_below w (B t)) (map B (children_in (out-Node t)))) y (out-Node u)) (out_is clear t)
      ∙ step) t

pub sameness_needs_no_contexts : SamenessNeedsNoContexts
sameness_needs_no_contexts t answer normal same =
    subst (λ n. IsTrue (same_tree (declared_names (by_texts t)) n (normal_form answer))) (sym normal)
    (subst (λ names. IsTrue (same_tree names (by_texts (normal_form t)) (normal_form answer))) (sym (declared_by t program_place))
    (kept (declared_names t) (normal_form t) program_place (normal_form answer) same))
