-- An id that an identifier of a tree binds is one of those that the tree declares.
use Rattle.std.proofs.Common.{◌≡◌, ℕ, zero, suc, Bool, true, false, ◌&&◌, ◌||◌, IsTrue, Option, Some, None, List, [], ◌∷◌, nat_eq, refl, ap, ◌∙◌}
use Rattle.std.specs.Prelude.{option_and_then, option_map, slice_get, if◌then◌else◌}
use Rattle.std.specs.Cmp.Lexicographic.{pointwise}
use Rattle.std.specs.List.{flat_map, list_any}
use Rattle.std.proofs.lemmas.Cmp.{nat_list_eq_equiv}
use Rattle.std.proofs.lemmas.List.Folds.{list_any-append}
use Rattle.std.proofs.Math.Bool.{or-true}
use Rattle.swc_tree_marks.specs.declared.ident.Ident.{Ident}
use Rattle.swc_tree_node.specs.declared.node.Node.{Node, out-Node}
use Rattle.swc_tree_node.specs.declared.node.Node.TheOpen.{Node-F}
use Rattle.swc_tree_scoping.specs.declared.places.Standing.{Standing}
use Rattle.swc_tree_scoping.specs.declared.places.Place.{Place}
use Rattle.swc_tree_scoping.specs.Places.{Path, child, children_in, given, place_at, place_below, program_place}
use Rattle.swc_tree_scoping.specs.Scopes.{is_binding}
use Rattle.swc_tree_scoping.specs.BoundNames.{Id, name_in}
use Rattle.swc_tree_scoping.specs.Folds.{each_in, fold_in_place}
use Rattle.swc_tree_scoping.proofs.Under.{each_in-at, fold_in_place_out}
use Rattle.swc_tree_grammar.specs.Normal.{same_id}
use Rattle.swc_tree_grammar.specs.Same.{bound_in, declared_names, declared_step}
use Rattle.swc_base_rename_substitution.specs.Identifiers.{id_of}
use Rattle.swc_base_rename_analysis.specs.Ids.{id_at}

module _ (j : Ident) where
  abbrev has : List Ident → Bool
  has is = list_any (same_id j) is

  same : (i : Ident) → id_of i ≡ id_of j → same_id j i ≡ true
  same i e =
      let text : pointwise nat_eq j.sym i.sym ≡ true = ap (λ (x : Id). pointwise nat_eq j.sym x.0) e ∙ nat_list_eq_equiv.refl j.sym in
      let context : pointwise nat_eq j.ctxt i.ctxt ≡ true = ap (λ (x : Id). pointwise nat_eq j.ctxt x.1) e ∙ nat_list_eq_equiv.refl j.ctxt in
      ap (λ b. b && pointwise nat_eq j.ctxt i.ctxt) text ∙ context

  here : (r : Standing) (y : Node-F Node) (i : Ident) → name_in y ≡ Some i → id_of i ≡ id_of j → is_binding r ≡ true → has (bound_in r y) ≡ true
  here r (Node-F.Identifier k i) i' e same_ids b =
      let one : i ≡ i' = cc in
      ap (λ b. has (if b then i ∷ [] else [])) b ∙ ap (λ b. b || false) (same i (ap id_of one ∙ same_ids))
  here r y i e same_ids b = absurd (cc)

  in_one : (lists : List (List Ident)) (n : ℕ) (l : List Ident) → slice_get lists n ≡ Some l → has l ≡ true → has (flat_map (λ names. names) lists) ≡ true
  in_one [] n l e h = absurd (cc)
  in_one (m ∷ lists) zero l e h = let one : m ≡ l = cc in list_any-append (same_id j) m (flat_map (λ names. names) lists) ∙ ap (λ b. b || has (flat_map (λ names. names) lists)) (ap has one ∙ h)
  in_one (m ∷ lists) (suc n) l e h = list_any-append (same_id j) m (flat_map (λ names. names) lists) ∙ ap (λ b. has m || b) (in_one lists n l e h) ∙ or-true (has m)

  abbrev names : Place → Node → List Ident
  names w t = fold_in_place declared_step w t

  below : (p : Path) (k : ℕ) (w : Place) (t : Node) (q : Place) (n : Node) (o : Option Node) → child t k ≡ o → given o None (λ c. place_at (place_below w t k) c p) ≡ Some (q, n)
      → ((d : Node) → place_at (place_below w t k) d p ≡ Some (q, n) → has (names (place_below w t k) d) ≡ true) → has (names w t) ≡ true
  below p k w t q n None c e found = absurd (cc)
  below p k w t q n (Some d) c e found =
      let rest = each_in names (place_below w t) (children_in (out-Node t)) in
      ap has (fold_in_place_out declared_step w t)
      ∙ list_any-append (same_id j) (bound_in w.standing (out-Node t)) (flat_map (λ names. names) rest)
      ∙ ap (λ b. has (bound_in w.standing (out-Node t)) || b) (in_one rest k (names (place_below w t k) d) (each_in-at names (place_below w t) (children_in (out-Node t)) k d c) (found d e))
      ∙ or-true (has (bound_in w.standing (out-Node t)))

  at_path : (p : Path) (w : Place) (t : Node) (q : Place) (n : Node) (i : Ident) → place_at w t p ≡ Some (q, n) → name_in (out-Node n) ≡ Some i → id_of i ≡ id_of j → is_binding q.standing ≡ true → has (names w t) ≡ true
  at_path [] w t q n i e name same_ids b =
      let both : (w, t) ≡ (q, n) = cc in let place : w ≡ q = ap (λ (x : Place × Node). x.0) both in let node : t ≡ n = ap (λ (x : Place × Node). x.1) both in
      let rest = flat_map (λ names. names) (each_in names (place_below w t) (children_in (out-Node t))) in
      ap has (fold_in_place_out declared_step w t)
      ∙ list_any-append (same_id j) (bound_in w.standing (out-Node t)) rest
      ∙ ap (λ b. b || has rest) (here w.standing (out-Node t) i (ap (λ t. name_in (out-Node t)) node ∙ name) same_ids (ap (λ (q : Place). is_binding q.standing) place ∙ b))
  at_path (k ∷ p) w t q n i e name same_ids b = below p k w t q n (child t k) refl e (λ d h. at_path p (place_below w t k) d q n i h name same_ids b)

  abbrev ident_in : Standing → Option Ident → Option (Standing × Id)
  ident_in r o = option_map (λ i. (r, (i.sym, i.ctxt))) o

  abbrev id_in : Option (Place × Node) → Option (Standing × Id)
  id_in o = option_and_then (λ (q : Place × Node). ident_in q.0.standing (name_in (out-Node q.1))) o

  named_there : (t : Node) (r : Standing) (o : Option (Place × Node)) (p : Path) → place_at program_place t p ≡ o
      → id_in o ≡ Some (r, id_of j) → is_binding r ≡ true → has (declared_names t) ≡ true
  named_there t r None p e h b = absurd (cc)
  named_there t r (Some (q, n)) p e h b = by (name_in (out-Node n)) refl h
    where
      by : (o : Option Ident) → name_in (out-Node n) ≡ o → ident_in q.standing o ≡ Some (r, id_of j) → has (declared_names t) ≡ true
      by None f g = absurd (cc)
      by (Some i) f g =
          let pair : (q.standing, id_of i) ≡ (r, id_of j) = cc in
          at_path p program_place t q n i e f (ap (λ (x : Standing × Id). x.1) pair) (ap (λ (x : Standing × Id). is_binding x.0) pair ∙ b)

  -- what an identifier at a path binds
  pub declared_there : (t : Node) (p : Path) (r : Standing) → id_at t p ≡ Some (r, id_of j) → IsTrue (is_binding r) → has (declared_names t) ≡ true
  declared_there t p r h b = named_there t r (place_at program_place t p) p refl h b
