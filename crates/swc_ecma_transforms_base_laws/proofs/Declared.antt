-- What an identifier of a tree binds is one of the names that the tree declares.
use Rattle.std.proofs.Common.{◌≡◌, ℕ, zero, suc, Bool, true, false, ◌||◌, Option, Some, None, List, [], ◌∷◌, refl, ap, ◌∙◌}
use Rattle.std.specs.Prelude.{slice_get, if◌then◌else◌}
use Rattle.std.specs.List.{flat_map, list_any}
use Rattle.std.proofs.lemmas.List.Folds.{list_any-append}
use Rattle.std.proofs.Math.Bool.{or-true}
use Rattle.swc_tree_marks.specs.declared.ident.Ident.{Ident}
use Rattle.swc_tree_node.specs.declared.kind.Kind.{Kind}
use Rattle.swc_tree_node.specs.declared.node.Node.{Node, Identifier, out-Node}
use Rattle.swc_tree_node.specs.declared.node.Node.TheVariants.{outs-Identifier}
use Rattle.swc_tree_scoping.specs.declared.places.Place.{Place}
use Rattle.swc_tree_scoping.specs.Places.{Path, child, children_in, given, place_at, place_below}
use Rattle.swc_tree_scoping.specs.Scopes.{is_binding}
use Rattle.swc_tree_scoping.specs.Folds.{each_in, fold_in_place}
use Rattle.swc_tree_scoping.proofs.Under.{each_in-at, fold_in_place_out}
use Rattle.swc_tree_grammar.specs.Normal.{same_id}
use Rattle.swc_tree_grammar.specs.Same.{bound_in, declared_step}
use Rattle.swc_base_rename_laws.proofs.Outline.{pair_same}

module _ (j : Ident) where
  abbrev has : List Ident → Bool
  has is = list_any (same_id j) is

  abbrev names : Place → Node → List Ident
  names w t = fold_in_place declared_step w t

  -- the names of the children
  abbrev inner : Place → Node → List Ident
  inner w t = flat_map (λ names. names) (each_in names (place_below w t) (children_in (out-Node t)))

  opened : (w : Place) (t : Node) → has (names w t) ≡ (has (bound_in w.standing (out-Node t)) || has (inner w t))
  opened w t = ap has (fold_in_place_out declared_step w t) ∙ list_any-append (same_id j) (bound_in w.standing (out-Node t)) (inner w t)

  in_one : (lists : List (List Ident)) (n : ℕ) (l : List Ident) → slice_get lists n ≡ Some l → has l ≡ true → has (flat_map (λ names. names) lists) ≡ true
  in_one [] n l e h = absurd (cc)
  in_one (m ∷ lists) zero l e h = let one : m ≡ l = cc in list_any-append (same_id j) m (flat_map (λ names. names) lists) ∙ ap (λ b. b || has (flat_map (λ names. names) lists)) (ap has one ∙ h)
  in_one (m ∷ lists) (suc n) l e h = list_any-append (same_id j) m (flat_map (λ names. names) lists) ∙ ap (λ b. has m || b) (in_one lists n l e h) ∙ or-true (has m)

  pub declared_at : (p : Path) (w v : Place) (t : Node) (k : Kind) (i : Ident) → place_at w t p ≡ Some (v, Identifier k i) → same_id j i ≡ true → is_binding v.standing ≡ true → has (names w t) ≡ true
  declared_at [] w v t k i e same binds =
      let here : has (bound_in w.standing (out-Node t)) ≡ true
      = ap (λ (q : Place × Node). has (bound_in q.0.standing (out-Node q.1))) (pair_same (w, t) (v, Identifier k i) e) ∙ ap (λ y. has (bound_in v.standing y)) (outs-Identifier k i)
      ∙ ap (λ b. has (if b then i ∷ [] else [])) binds ∙ ap (λ b. b || false) same in
      opened w t ∙ ap (λ b. b || has (inner w t)) here
  declared_at (n ∷ p) w v t k i e same binds = by (child t n) refl e (λ d h. declared_at p (place_below w t n) v d k i h same binds)
    where
      by : (o : Option Node) → child t n ≡ o → given o None (λ c. place_at (place_below w t n) c p) ≡ Some (v, Identifier k i)
          → ((d : Node) → place_at (place_below w t n) d p ≡ Some (v, Identifier k i) → has (names (place_below w t n) d) ≡ true) → has (names w t) ≡ true
      by None c e found = absurd (cc)
      by (Some d) c e found =
          let rest = each_in names (place_below w t) (children_in (out-Node t)) in
          opened w t ∙ ap (λ b. has (bound_in w.standing (out-Node t)) || b) (in_one rest n (names (place_below w t n) d) (each_in-at names (place_below w t) (children_in (out-Node t)) n d c) (found d e))
          ∙ or-true (has (bound_in w.standing (out-Node t)))
