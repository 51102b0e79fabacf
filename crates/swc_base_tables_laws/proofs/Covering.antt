-- What stands in a tree whose identifiers that name helpers become members stood in the tree before: names and trees, but for those that
-- are made.
use Rattle.std.proofs.Common.{◌≡◌, ◌⊎◌, ℕ, zero, suc, Bool, true, false, inl, inr, ⊎_elim, Option, Some, None, List, [], ◌∷◌, refl, sym, ap, ◌∙◌}
use Rattle.std.specs.List.{slice_get}
use Rattle.std.specs.Option.{option_map}
use Rattle.std.specs.Prelude.{codes}
use Rattle.swc_tree_marks.specs.declared.ident.Ident.{Ident}
use Rattle.swc_tree_node.specs.declared.kind.Kind.{Kind}
use Rattle.swc_tree_node.specs.declared.kind.Kind.TheVariants as kind
use Rattle.swc_tree_node.specs.declared.slot.Slot.{Slot}
use Rattle.swc_tree_node.specs.declared.node.Node.{Node, Identifier, Span, Tree, out-Node}
use Rattle.swc_tree_node.specs.declared.node.Node.TheOpen.{Node-F}
use Rattle.swc_tree_node.specs.declared.node.Node.TheVariants.{outs-Identifier, outs-Span, outs-Tree}
use Rattle.swc_tree_scoping.specs.declared.places.Place.{Place}
use Rattle.swc_tree_scoping.specs.Places.{Path, child, children_in, is_expression_in, place_at, place_below, place_in}
use Rattle.swc_tree_scoping.specs.Scopes.{is_reference}
use Rattle.swc_tree_scoping.proofs.Remarked.{identifier_is, tree_is}
use Rattle.swc_tree_scoping.proofs.Under.{no_place_under, place_under}
use Rattle.swc_base_tables_injection.specs.declared.members.Seat.{Seat}
use Rattle.swc_base_tables_injection.specs.declared.members.Seat.TheVariants as seat
use Rattle.swc_base_tables_injection.specs.Members.{field_seat, has_only, helper_as, member_of, membered}
use Rattle.swc_base_tables_injection.proofs.Equations.{membered_identifier}
use Rattle.swc_base_tables_laws.proofs.Declarers.{some_same}
use Rattle.swc_base_tables_laws.proofs.Deeper.{Near, deeper, deeper_under, near_child, tail_in, tail_of}
use Rattle.swc_base_tables_laws.proofs.Inside.{Alike}
use Rattle.swc_base_tables_laws.proofs.Made.{HasMade, identifier_made, is_made, member_made, name_plain, property_made, shorthand_plain}
use Rattle.swc_base_tables_laws.proofs.Membered.{changes_in, child_there, get, is_changed, layer, member_fields, out_is, property_fields, seat_in}
use Rattle.swc_base_tables_laws.proofs.Readings.{is_no_identifier, no_names_leaf}
use Rattle.swc_base_tables_laws.proofs.Seated.{Seated, changes_there, child_seated}
use Rattle.swc_base_tables_laws.proofs.Steps.{below_identifier, not_there, not_tree, tree_step}

impossible : {A : Type 0} → false ≡ true → A
impossible h = absurd (cc)

-- the one name in a member, and in a property
name_in_member : (i : Ident) (p : Path) (z v : Place) (k : Kind) (j : Ident) → place_at z (member_of i) p ≡ Some (v, Identifier k j) → (p ≡ 1 ∷ []) × (Identifier kind.Ident i ≡ Identifier k j) × (is_reference v.standing ≡ true)
name_in_member i [] z v k j e = not_tree z v kind.MemberExpr k (member_fields i) j e
name_in_member i (zero ∷ p) z v k j e =
    absurd (no_names_leaf (Span i.span) (Node-F.Span i.span) (outs-Span i.span) refl refl p (place_in z (Node-F.Tree kind.MemberExpr (member_fields i)) 0) v k j (sym (tree_step z kind.MemberExpr (member_fields i) 0 p) ∙ e))
name_in_member i (suc zero ∷ []) z v k j e =
    let both = some_same (place_in z (Node-F.Tree kind.MemberExpr (member_fields i)) 1, Identifier kind.Ident i) (v, Identifier k j) (sym (tree_step z kind.MemberExpr (member_fields i) 1 []) ∙ e) in
    (refl, ap (λ (x : Place × Node). x.1) both, ap (λ (x : Place × Node). is_reference x.0.standing) (sym both))
name_in_member i (suc zero ∷ n ∷ p) z v k j e =
    not_there (place_at (place_in z (Node-F.Tree kind.MemberExpr (member_fields i)) 1) (Identifier kind.Ident i) (n ∷ p)) v k j (below_identifier (place_in z (Node-F.Tree kind.MemberExpr (member_fields i)) 1) kind.Ident i n p)
    (sym (tree_step z kind.MemberExpr (member_fields i) 1 (n ∷ p)) ∙ e)
name_in_member i (suc (suc zero) ∷ p) z v k j e =
    absurd (name_plain i.span (codes "_") p (place_in z (Node-F.Tree kind.MemberExpr (member_fields i)) 2) v k j (sym (tree_step z kind.MemberExpr (member_fields i) 2 p) ∙ e))
name_in_member i (suc (suc (suc n)) ∷ p) z v k j e = not_there (place_at z (member_of i) (suc (suc (suc n)) ∷ p)) v k j (tree_step z kind.MemberExpr (member_fields i) (suc (suc (suc n))) p) e

name_in_property : (i : Ident) (p : Path) (z v : Place) (k : Kind) (j : Ident) → place_at z (Tree kind.KeyValueProp (property_fields i)) p ≡ Some (v, Identifier k j) → (p ≡ 1 ∷ 1 ∷ []) × (Identifier kind.Ident i ≡ Identifier k j) × (is_reference v.standing ≡ true)
name_in_property i [] z v k j e = not_tree z v kind.KeyValueProp k (property_fields i) j e
name_in_property i (zero ∷ p) z v k j e =
    absurd (shorthand_plain i p (place_in z (Node-F.Tree kind.KeyValueProp (property_fields i)) 0) v k j (sym (tree_step z kind.KeyValueProp (property_fields i) 0 p) ∙ e))
name_in_property i (suc zero ∷ p) z v k j e =
    let (path, is, refers) = name_in_member i p (place_in z (Node-F.Tree kind.KeyValueProp (property_fields i)) 1) v k j (sym (tree_step z kind.KeyValueProp (property_fields i) 1 p) ∙ e) in
    (ap (λ p. 1 ∷ p) path, is, refers)
name_in_property i (suc (suc n) ∷ p) z v k j e = not_there (place_at z (Tree kind.KeyValueProp (property_fields i)) (suc (suc n) ∷ p)) v k j (tree_step z kind.KeyValueProp (property_fields i) (suc (suc n)) p) e

-- an identifier that does not change, and one that may
plain_covered : (w z : Place) (l : Kind) (i : Ident) → z ≡ w → (p : Path) (v : Place) (k : Kind) (j : Ident) → place_at z (Identifier l i) p ≡ Some (v, Identifier k j) → (p ≡ []) × (Identifier l i ≡ Identifier k j) × Alike w v
plain_covered w z l i near [] v k j e = let both = some_same (z, Identifier l i) (v, Identifier k j) e in (refl, ap (λ (x : Place × Node). x.1) both, inl (sym near ∙ ap (λ (x : Place × Node). x.0) both))
plain_covered w z l i near (n ∷ p) v k j e = not_there (place_at z (Identifier l i) (n ∷ p)) v k j (below_identifier z l i n p) e

identifier_covered : (w z : Place) (b : Bool) (q : Seat) (l : Kind) (i : Ident) → (is_changed b q l ≡ false → z ≡ w) → (changes_there q ≡ true → is_expression_in (Node-F.Identifier l i) ≡ true → is_reference w.standing ≡ true)
    → (p : Path) (v : Place) (k : Kind) (j : Ident) → place_at z (helper_as b q l i) p ≡ Some (v, Identifier k j) → (p ≡ tail_in b q l) × (Identifier l i ≡ Identifier k j) × Alike w v
identifier_covered w z true seat.Expression kind.Ident i near refers p v k j e = let (path, is, there) = name_in_member i p z v k j e in (path, is, inr (refers refl refl, there))
identifier_covered w z true seat.Property kind.Ident i near refers p v k j e = let (path, is, there) = name_in_property i p z v k j e in (path, is, inr (refers refl refl, there))
identifier_covered w z b q l i near refers p v k j e = plain_covered w z l i (near refl) p v k j e

-- each tree of which is made
identifier_trees : (b : Bool) (q : Seat) (l : Kind) (i : Ident) → HasMade (helper_as b q l i)
identifier_trees true seat.Expression kind.Ident i = member_made i
identifier_trees true seat.Property kind.Ident i = property_made i
identifier_trees b q l i = identifier_made l i

module _ (m : ℕ) where
  abbrev M : Seat → Node → Node
  M q t = membered m q t

  still_none : (q : Seat) (y : Node-F Node) → is_no_identifier y ≡ true → is_no_identifier (layer m q y) ≡ true
  still_none q (Node-F.Identifier k i) h = impossible h
  still_none q (Node-F.Tree k ts) h = refl
  still_none q (Node-F.List ts) h = refl
  still_none q Node-F.Absent h = refl
  still_none q (Node-F.Flag x) h = refl
  still_none q (Node-F.Word x) h = refl
  still_none q (Node-F.Text x) h = refl
  still_none q (Node-F.Span x) h = refl

  -- where the node had no child there is none
  no_children : (q : Seat) (n : ℕ) (y : Node-F Node) → is_no_identifier y ≡ true → slice_get (children_in y) n ≡ None → slice_get (children_in (layer m q y)) n ≡ None
  no_children q n (Node-F.Identifier k i) h none = impossible h
  no_children q n (Node-F.Tree k ts) h none = get m (field_seat k) ts n ∙ ap (option_map (M (field_seat k n))) none
  no_children q n (Node-F.List ts) h none = get m (λ i. q) ts n ∙ ap (option_map (M q)) none
  no_children q n Node-F.Absent h none = none
  no_children q n (Node-F.Flag x) h none = none
  no_children q n (Node-F.Word x) h none = none
  no_children q n (Node-F.Text x) h none = none
  no_children q n (Node-F.Span x) h none = none

  abbrev Below : Place → Seat → Node → ℕ → Path → Place → Node → Type 0
  Below z q t n p v x = (c : Node) × (child t n ≡ Some c) × (place_at (place_below z (M q t) n) (M (seat_in q (out-Node t) n) c) p ≡ Some (v, x))

  -- one step down in the new tree
  step_back : (z : Place) (q : Seat) (t : Node) (n : ℕ) (p : Path) (v : Place) (x : Node) → is_no_identifier (out-Node t) ≡ true → place_at z (M q t) (n ∷ p) ≡ Some (v, x) → Below z q t n p v x
  step_back z q t n p v x h e = at (child t n) refl
    where
      at : (o : Option Node) → child t n ≡ o → Below z q t n p v x
      at None o =
          let none : child (M q t) n ≡ None = ap (λ y. slice_get (children_in y) n) (out_is m q t) ∙ no_children q n (out-Node t) h o in
          let r : ◌≡◌ {A = Option (Place × Node)} (Some (v, x)) None = sym e ∙ no_place_under z (M q t) n p none in
          absurd (cc)
      at (Some c) o = (c, o, sym (place_under z (M q t) (M (seat_in q (out-Node t) n) c) n p (child_there m q t c n o)) ∙ e)

  abbrev CoveredAt : Place → Seat → Node → Path → Place → Kind → Ident → Type 0
  CoveredAt w q t p v k j = (r : Path) × (y : Place) × (p ≡ deeper m q t r) × (place_at w t r ≡ Some (y, Identifier k j)) × Alike y v

  -- an identifier, or something else
  abbrev Form : Node → Type 0
  Form t = ((k : Kind) × (i : Ident) × (t ≡ Identifier k i)) ⊎ (is_no_identifier (out-Node t) ≡ true)

  form : (t : Node) → Form t
  form t = by (out-Node t) refl
    where
      by : (y : Node-F Node) → out-Node t ≡ y → Form t
      by (Node-F.Identifier k i) o = inl (k, i, identifier_is t k i o)
      by (Node-F.Tree k ts) o = inr (ap is_no_identifier o)
      by (Node-F.List ts) o = inr (ap is_no_identifier o)
      by Node-F.Absent o = inr (ap is_no_identifier o)
      by (Node-F.Flag x) o = inr (ap is_no_identifier o)
      by (Node-F.Word x) o = inr (ap is_no_identifier o)
      by (Node-F.Text x) o = inr (ap is_no_identifier o)
      by (Node-F.Span x) o = inr (ap is_no_identifier o)

  changed_covered : (w z : Place) (s : Slot) (q : Seat) (t : Node) (l : Kind) (i : Ident) → t ≡ Identifier l i → Seated w s q t → Near m w z q t → (p : Path) (v : Place) (k : Kind) (j : Ident) → place_at z (M q t) p ≡ Some (v, Identifier k j) → CoveredAt w q t p v k j
  changed_covered w z s q t l i node (f, is, right) near p v k j e =
      let o : out-Node t ≡ Node-F.Identifier l i = ap out-Node node ∙ outs-Identifier l i in
      let (path, same, alike) = identifier_covered w z (has_only m i.ctxt) q l i (λ h. near (ap (changes_in m q) o ∙ h)) (λ h g. right.1 (ap changes_there (sym is) ∙ h) (ap is_expression_in o ∙ g)) p v k j
      (sym (ap (λ x. place_at z x p) (ap (M q) node ∙ membered_identifier m q l i)) ∙ e) in
      ([], w, path ∙ sym (ap (tail_of m q) o), ap (λ x. Some (w, x)) (node ∙ same), alike)

  pub names_covered : (p : Path) (w z : Place) (s : Slot) (q : Seat) (t : Node) (v : Place) (k : Kind) (j : Ident) → Seated w s q t → Near m w z q t → place_at z (M q t) p ≡ Some (v, Identifier k j) → CoveredAt w q t p v k j
  names_covered [] w z s q t v k j seated near e = ⊎_elim
      (λ (a : (l : Kind) × (i : Ident) × (t ≡ Identifier l i)). changed_covered w z s q t a.0 a.1 a.2 seated near [] v k j e)
      (λ (h : is_no_identifier (out-Node t) ≡ true).
      impossible (sym (ap is_no_identifier (sym (out_is m q t) ∙ ap (λ (x : Place × Node). out-Node x.1) (some_same (z, M q t) (v, Identifier k j) e) ∙ outs-Identifier k j)) ∙ still_none q (out-Node t) h))
      (form t)
  names_covered (n ∷ p) w z s q t v k j seated near e = by (form t) (λ x y u r c. names_covered p x y u r c)
    where
      by : Form t → ((x y : Place) (u : Slot) (r : Seat) (c : Node) (v : Place) (k : Kind) (j : Ident) → Seated x u r c → Near m x y r c → place_at y (M r c) p ≡ Some (v, Identifier k j) → CoveredAt x r c p v k j) → CoveredAt w q t (n ∷ p) v k j
      by (inl (l, i, node)) rest = changed_covered w z s q t l i node seated near (n ∷ p) v k j e
      by (inr h) rest =
          let (c, at, below) = step_back z q t n p v (Identifier k j) h e in
          let r = seat_in q (out-Node t) n in
          let (u, child) = child_seated w s q t c n seated at in
          let (path, y, is, there, alike) = rest (place_below w t n) (place_below z (M q t) n) u r c v k j child (near_child m w z q t c n near at) below in
          (n ∷ path, y, ap (λ p. n ∷ p) is ∙ sym (deeper_under m q t c n path at), place_under w t c n path at ∙ there, alike)

  abbrev TreeAt : Place → Node → Path → Kind → Type 0
  TreeAt w t p k = (v : Place) × (us : List Node) × (place_at w t p ≡ Some (v, Tree k us))

  -- a tree that is not made was there
  not_made : {A : Type 0} (p : Path) (z : Place) (q : Seat) (t : Node) (v : Place) (k : Kind) (ts : List Node) (l : Kind) (i : Ident) → t ≡ Identifier l i → is_made k ≡ false → place_at z (M q t) p ≡ Some (v, Tree k ts) → A
  not_made p z q t v k ts l i node other e =
      impossible (sym other ∙ identifier_trees (has_only m i.ctxt) q l i p z v k ts (sym (ap (λ x. place_at z x p) (ap (M q) node ∙ membered_identifier m q l i)) ∙ e))

  top_tree : (w : Place) (q : Seat) (t : Node) (k : Kind) (ts : List Node) (y : Node-F Node) → out-Node t ≡ y → is_no_identifier y ≡ true → layer m q y ≡ Node-F.Tree k ts → TreeAt w t [] k
  top_tree w q t k ts (Node-F.Tree l us) o h e = let same : l ≡ k = cc in (w, us, ap (λ x. Some (w, x)) (tree_is t l us o ∙ ap (λ k. Tree k us) same))
  top_tree w q t k ts (Node-F.Identifier l i) o h e = impossible h
  top_tree w q t k ts (Node-F.List us) o h e = absurd (cc)
  top_tree w q t k ts Node-F.Absent o h e = absurd (cc)
  top_tree w q t k ts (Node-F.Flag x) o h e = absurd (cc)
  top_tree w q t k ts (Node-F.Word x) o h e = absurd (cc)
  top_tree w q t k ts (Node-F.Text x) o h e = absurd (cc)
  top_tree w q t k ts (Node-F.Span x) o h e = absurd (cc)

  pub trees_stood : (p : Path) (w z : Place) (q : Seat) (t : Node) (v : Place) (k : Kind) (ts : List Node) → is_made k ≡ false → place_at z (M q t) p ≡ Some (v, Tree k ts) → TreeAt w t p k
  trees_stood [] w z q t v k ts other e = ⊎_elim
      (λ (a : (l : Kind) × (i : Ident) × (t ≡ Identifier l i)). not_made [] z q t v k ts a.0 a.1 a.2 other e)
      (λ (h : is_no_identifier (out-Node t) ≡ true).
      top_tree w q t k ts (out-Node t) refl h (sym (out_is m q t) ∙ ap (λ (x : Place × Node). out-Node x.1) (some_same (z, M q t) (v, Tree k ts) e) ∙ outs-Tree k ts))
      (form t)
  trees_stood (n ∷ p) w z q t v k ts other e = by (form t) (λ x y r c g. trees_stood p x y r c v k ts other g)
    where
      by : Form t → ((x y : Place) (r : Seat) (c : Node) → place_at y (M r c) p ≡ Some (v, Tree k ts) → TreeAt x c p k) → TreeAt w t (n ∷ p) k
      by (inl (l, i, node)) rest = not_made (n ∷ p) z q t v k ts l i node other e
      by (inr h) rest =
          let (c, at, below) = step_back z q t n p v (Tree k ts) h e in
          let (u, us, there) = rest (place_below w t n) (place_below z (M q t) n) (seat_in q (out-Node t) n) c below in
          (u, us, place_under w t c n p at ∙ there)
