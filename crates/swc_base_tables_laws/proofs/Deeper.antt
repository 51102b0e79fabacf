-- Paths in a tree whose identifiers that name helpers become members: each leads to its identifier, one or two steps further down.
use Rattle.std.proofs.Common.{◌≡◌, ℕ, Bool, true, false, IsTrue, inl, inr, Option, Some, None, [], ◌∷◌, ◌++◌, map, refl, sym, ap, ◌∙◌, subst}
use Rattle.std.specs.List.{slice_get}
use Rattle.std.specs.Option.{is_some, option_and_then}
use Rattle.swc_tree_marks.specs.declared.ident.Ident.{Ident}
use Rattle.swc_tree_node.specs.declared.kind.Kind.{Kind}
use Rattle.swc_tree_node.specs.declared.kind.Kind.TheVariants as kind
use Rattle.swc_tree_node.specs.declared.slot.Slot.{Slot}
use Rattle.swc_tree_node.specs.declared.node.Node.{Node, Identifier, out-Node}
use Rattle.swc_tree_node.specs.declared.node.Node.TheOpen.{Node-F}
use Rattle.swc_tree_node.specs.declared.node.Node.TheVariants.{outs-Identifier}
use Rattle.swc_tree_scoping.specs.declared.places.Place.{Place}
use Rattle.swc_tree_scoping.specs.declared.places.Scope.{Scope}
use Rattle.swc_tree_scoping.specs.Places.{Path, child, children_in, given, is_expression_in, opened, opened_in, place_at, place_below, place_in}
use Rattle.swc_tree_scoping.specs.Scopes.{Round, is_reference, rounds, scope_at, seen_as, view_in}
use Rattle.swc_tree_scoping.proofs.Remarked.{identifier_is}
use Rattle.swc_tree_scoping.proofs.Under.{lower, no_place_under, no_scope_under, place_under, rounds_under, scope_under}
use Rattle.swc_base_tables_injection.specs.declared.members.Seat.{Seat}
use Rattle.swc_base_tables_injection.specs.declared.members.Seat.TheVariants as seat
use Rattle.swc_base_tables_injection.specs.Members.{has_only, helper_as, membered}
use Rattle.swc_base_tables_injection.proofs.Equations.{membered_identifier}
use Rattle.swc_base_tables_laws.proofs.Declarers.{some_same}
use Rattle.swc_base_tables_laws.proofs.Inside.{Alike}
use Rattle.swc_base_tables_laws.proofs.Membered.{changes_in, child_there, is_changed, member_fields, opened_same, place_same, property_fields, seat_in, view_same}
use Rattle.swc_base_tables_laws.proofs.Seated.{Seated, changes_there, child_seated}
use Rattle.swc_base_tables_laws.proofs.Steps.{tree_rounds, tree_step}

impossible : {A : Type 0} → false ≡ true → A
impossible h = absurd (cc)

-- how much further down the identifier stands
abbrev pub tail_in : Bool → Seat → Kind → Path
tail_in true seat.Expression kind.Ident = 1 ∷ []
tail_in true seat.Property kind.Ident = 1 ∷ 1 ∷ []
tail_in b q k = []

abbrev pub There : Place → Node → Path → Type 0
There w t p = (v : Place) × (n : Node) × (place_at w t p ≡ Some (v, n))

-- one step down
pub step_in : (w : Place) (t : Node) (n : ℕ) (p : Path) (v : Place) (x : Node) → place_at w t (n ∷ p) ≡ Some (v, x) → (c : Node) × (child t n ≡ Some c) × (place_at (place_below w t n) c p ≡ Some (v, x))
step_in w t n p v x e = at (child t n) refl
  where
    at : (o : Option Node) → child t n ≡ o → (c : Node) × (child t n ≡ Some c) × (place_at (place_below w t n) c p ≡ Some (v, x))
    at None o = let z : ◌≡◌ {A = Option (Place × Node)} (Some (v, x)) None = sym e ∙ no_place_under w t n p o in absurd (cc)
    at (Some c) o = (c, o, sym (place_under w t c n p o) ∙ e)

pub no_child : {A : Type 0} (t c : Node) (n : ℕ) (k : Kind) (i : Ident) → out-Node t ≡ Node-F.Identifier k i → child t n ≡ Some c → A
no_child t c n k i o at = let z : ◌≡◌ {A = Option Node} None (Some c) = sym (ap (λ y. slice_get (children_in y) n) o) ∙ at in absurd (cc)

module _ (m : ℕ) where
  abbrev M : Seat → Node → Node
  M q t = membered m q t

  abbrev pub tail_of : Seat → Node-F Node → Path
  tail_of q (Node-F.Identifier k i) = tail_in (has_only m i.ctxt) q k
  tail_of q _ = []

  abbrev pub deeper : Seat → Node → Path → Path
  deeper q t [] = tail_of q (out-Node t)
  deeper q t (n ∷ p) = n ∷ given (child t n) p (λ c. deeper (seat_in q (out-Node t) n) c p)

  pub deeper_under : (q : Seat) (t c : Node) (n : ℕ) (p : Path) → child t n ≡ Some c → deeper q t (n ∷ p) ≡ n ∷ deeper (seat_in q (out-Node t) n) c p
  deeper_under q t c n p at = ap (λ o. n ∷ given o p (λ c. deeper (seat_in q (out-Node t) n) c p)) at

  -- what has a child is no identifier
  pub parent : (q : Seat) (t c : Node) (n : ℕ) → child t n ≡ Some c → (changes_in m q (out-Node t) ≡ false) × (tail_of q (out-Node t) ≡ [])
  parent q t c n at = by (out-Node t) refl
    where
      by : (y : Node-F Node) → out-Node t ≡ y → (changes_in m q (out-Node t) ≡ false) × (tail_of q (out-Node t) ≡ [])
      by (Node-F.Identifier k i) o = no_child t c n k i o at
      by (Node-F.Tree k ts) o = (ap (changes_in m q) o, ap (tail_of q) o)
      by (Node-F.List ts) o = (ap (changes_in m q) o, ap (tail_of q) o)
      by Node-F.Absent o = (ap (changes_in m q) o, ap (tail_of q) o)
      by (Node-F.Flag x) o = (ap (changes_in m q) o, ap (tail_of q) o)
      by (Node-F.Word x) o = (ap (changes_in m q) o, ap (tail_of q) o)
      by (Node-F.Text x) o = (ap (changes_in m q) o, ap (tail_of q) o)
      by (Node-F.Span x) o = (ap (changes_in m q) o, ap (tail_of q) o)

  -- what does not change stands where it stood
  abbrev pub Near : Place → Place → Seat → Node → Type 0
  Near w z q t = changes_in m q (out-Node t) ≡ false → z ≡ w

  pub near_child : (w z : Place) (q : Seat) (t c : Node) (n : ℕ) → Near w z q t → child t n ≡ Some c → Near (place_below w t n) (place_below z (M q t) n) (seat_in q (out-Node t) n) c
  near_child w z q t c n near at still = ap (λ w. place_below w (M q t) n) (near (parent q t c n at).0) ∙ place_same m w q t c n at still

  -- names
  identifier_kept : (w z : Place) (b : Bool) (q : Seat) (k : Kind) (i : Ident) → (is_changed b q k ≡ false → z ≡ w) → (changes_there q ≡ true → is_expression_in (Node-F.Identifier k i) ≡ true → is_reference w.standing ≡ true)
      → (v : Place) × (place_at z (helper_as b q k i) (tail_in b q k) ≡ Some (v, Identifier k i)) × Alike w v
  identifier_kept w z true seat.Expression kind.Ident i near refers = (place_in z (Node-F.Tree kind.MemberExpr (member_fields i)) 1, tree_step z kind.MemberExpr (member_fields i) 1 [], inr (refers refl refl, refl))
  identifier_kept w z true seat.Property kind.Ident i near refers =
      let v = place_in z (Node-F.Tree kind.KeyValueProp (property_fields i)) 1 in
      (place_in v (Node-F.Tree kind.MemberExpr (member_fields i)) 1, tree_step z kind.KeyValueProp (property_fields i) 1 (1 ∷ []) ∙ tree_step v kind.MemberExpr (member_fields i) 1 [], inr (refers refl refl, refl))
  identifier_kept w z b q k i near refers = (z, refl, inl (sym (near refl)))

  abbrev KeptAt : Place → Place → Seat → Node → Path → Kind → Ident → Type 0
  KeptAt w z q t p k i = (v : Place) × (place_at z (M q t) (deeper q t p) ≡ Some (v, Identifier k i)) × Alike w v

  pub names_kept : (p : Path) (w z : Place) (s : Slot) (q : Seat) (t : Node) (v : Place) (k : Kind) (i : Ident) → Seated w s q t → Near w z q t → place_at w t p ≡ Some (v, Identifier k i) → KeptAt v z q t p k i
  names_kept [] w z s q t v k i (f, is, right) near e =
      let both = some_same (w, t) (v, Identifier k i) e in
      let node : t ≡ Identifier k i = ap (λ (x : Place × Node). x.1) both in
      let place : w ≡ v = ap (λ (x : Place × Node). x.0) both in
      let o : out-Node t ≡ Node-F.Identifier k i = ap out-Node node ∙ outs-Identifier k i in
      let (u, there, alike) = identifier_kept w z (has_only m i.ctxt) q k i (λ h. near (ap (changes_in m q) o ∙ h)) (λ h g. right.1 (ap changes_there (sym is) ∙ h) (ap is_expression_in o ∙ g)) in
      (u, ap (λ t. place_at z (M q t) (deeper q t [])) node ∙ ap (λ x. place_at z x (deeper q (Identifier k i) [])) (membered_identifier m q k i) ∙ ap (λ y. place_at z (helper_as (has_only m i.ctxt) q k i) (tail_of q y)) (outs-Identifier k i) ∙ there, subst (λ w. Alike w u) place alike)
  names_kept (n ∷ p) w z s q t v k i seated near e =
      let (c, at, below) = step_in w t n p v (Identifier k i) e in
      let r = seat_in q (out-Node t) n in
      let (u, child) = child_seated w s q t c n seated at in
      let (x, there, alike) = names_kept p (place_below w t n) (place_below z (M q t) n) u r c v k i child (near_child w z q t c n near at) below in
      (x, ap (place_at z (M q t)) (deeper_under q t c n p at) ∙ place_under z (M q t) (M r c) n (deeper r c p) (child_there m q t c n at) ∙ there, alike)

  -- scopes round them
  identifier_rounds : (z : Place) (b : Bool) (q : Seat) (k : Kind) (i : Ident) → rounds z (helper_as b q k i) (tail_in b q k) ≡ []
  identifier_rounds z true seat.Expression kind.Ident i = tree_rounds z kind.MemberExpr (member_fields i) 1 []
  identifier_rounds z true seat.Property kind.Ident i =
      tree_rounds z kind.KeyValueProp (property_fields i) 1 (1 ∷ [])
      ∙ ap (λ l. map (λ (s : Round). (1 ∷ s.0, s.1)) l ++ []) (tree_rounds (place_in z (Node-F.Tree kind.KeyValueProp (property_fields i)) 1) kind.MemberExpr (member_fields i) 1 [])
  identifier_rounds z b q k i = refl

  top_rounds : (z : Place) (q : Seat) (t : Node) (y : Node-F Node) → out-Node t ≡ y → rounds z (M q t) (tail_of q y) ≡ []
  top_rounds z q t (Node-F.Identifier k i) o =
      ap (λ x. rounds z x (tail_in (has_only m i.ctxt) q k)) (ap (M q) (identifier_is t k i o) ∙ membered_identifier m q k i) ∙ identifier_rounds z (has_only m i.ctxt) q k i
  top_rounds z q t y o = refl

  pub rounds_stay : (p : Path) (w z : Place) (q : Seat) (t : Node) → Near w z q t → There w t p → rounds z (M q t) (deeper q t p) ≡ rounds w t p
  rounds_stay [] w z q t near there = top_rounds z q t (out-Node t) refl
  rounds_stay (n ∷ p) w z q t near (v, x, e) =
      let (c, at, below) = step_in w t n p v x e in
      let r = seat_in q (out-Node t) n in
      ap (rounds z (M q t)) (deeper_under q t c n p at) ∙ rounds_under z (M q t) (M r c) n (deeper r c p) (child_there m q t c n at)
      ∙ ap (λ l. map (lower n) l ++ seen_as (opened z (M q t)) (view_in (out-Node (M q t)) n)) (rounds_stay p (place_below w t n) (place_below z (M q t) n) r c (near_child w z q t c n near at) (v, x, below))
      ∙ ap (λ o. map (lower n) (rounds (place_below w t n) c p) ++ seen_as o (view_in (out-Node (M q t)) n)) (opened_same m q z t ∙ ap (λ w. opened w t) (near (parent q t c n at).0))
      ∙ ap (λ v. map (lower n) (rounds (place_below w t n) c p) ++ seen_as (opened w t) v) (view_same m q t c n at)
      ∙ sym (rounds_under w t c n p at)

  -- the scopes themselves
  identifier_opens : (z : Place) (b : Bool) (q : Seat) (k : Kind) (i : Ident) → scope_at z (helper_as b q k i) (tail_in b q k) ≡ None
  identifier_opens z true seat.Expression kind.Ident i =
      ap (option_and_then (λ (q : Place × Node). opened q.0 q.1)) (tree_step z kind.MemberExpr (member_fields i) 1 []) ∙ ap (opened_in (place_in z (Node-F.Tree kind.MemberExpr (member_fields i)) 1)) (outs-Identifier kind.Ident i)
  identifier_opens z true seat.Property kind.Ident i =
      let v = place_in z (Node-F.Tree kind.KeyValueProp (property_fields i)) 1 in
      ap (option_and_then (λ (q : Place × Node). opened q.0 q.1)) (tree_step z kind.KeyValueProp (property_fields i) 1 (1 ∷ []) ∙ tree_step v kind.MemberExpr (member_fields i) 1 [])
      ∙ ap (opened_in (place_in v (Node-F.Tree kind.MemberExpr (member_fields i)) 1)) (outs-Identifier kind.Ident i)
  identifier_opens z b q k i = ap (opened_in z) (outs-Identifier k i)

  top_opens : (w z : Place) (q : Seat) (t : Node) (y : Node-F Node) → out-Node t ≡ y → (changes_in m q y ≡ false → z ≡ w) → scope_at z (M q t) (tail_of q y) ≡ opened w t
  top_opens w z q t (Node-F.Identifier k i) o near =
      ap (λ x. scope_at z x (tail_in (has_only m i.ctxt) q k)) (ap (M q) (identifier_is t k i o) ∙ membered_identifier m q k i) ∙ identifier_opens z (has_only m i.ctxt) q k i ∙ sym (ap (opened_in w) o)
  top_opens w z q t (Node-F.Tree k ts) o near = opened_same m q z t ∙ ap (λ w. opened w t) (near refl)
  top_opens w z q t (Node-F.List ts) o near = opened_same m q z t ∙ ap (λ w. opened w t) (near refl)
  top_opens w z q t y o near = opened_same m q z t ∙ ap (λ w. opened w t) (near refl)

  pub scopes_stay : (p : Path) (w z : Place) (q : Seat) (t : Node) → Near w z q t → There w t p → scope_at z (M q t) (deeper q t p) ≡ scope_at w t p
  scopes_stay [] w z q t near there = top_opens w z q t (out-Node t) refl near
  scopes_stay (n ∷ p) w z q t near (v, x, e) =
      let (c, at, below) = step_in w t n p v x e in
      let r = seat_in q (out-Node t) n in
      ap (scope_at z (M q t)) (deeper_under q t c n p at) ∙ scope_under z (M q t) (M r c) n (deeper r c p) (child_there m q t c n at)
      ∙ scopes_stay p (place_below w t n) (place_below z (M q t) n) r c (near_child w z q t c n near at) (v, x, below) ∙ sym (scope_under w t c n p at)

  -- scopes stay where they are
  top_fixed : (w : Place) (q : Seat) (t : Node) (y : Node-F Node) → out-Node t ≡ y → IsTrue (is_some (opened_in w y)) → tail_of q y ≡ []
  top_fixed w q t (Node-F.Identifier k i) o h = impossible h
  top_fixed w q t (Node-F.Tree k ts) o h = refl
  top_fixed w q t y o h = refl

  pub scopes_fixed : (p : Path) (w : Place) (q : Seat) (t : Node) → IsTrue (is_some (scope_at w t p)) → deeper q t p ≡ p
  scopes_fixed [] w q t h = top_fixed w q t (out-Node t) refl h
  scopes_fixed (n ∷ p) w q t h = at (child t n) refl (λ c g. scopes_fixed p (place_below w t n) (seat_in q (out-Node t) n) c g)
    where
      at : (o : Option Node) → child t n ≡ o → ((c : Node) → IsTrue (is_some (scope_at (place_below w t n) c p)) → deeper (seat_in q (out-Node t) n) c p ≡ p) → deeper q t (n ∷ p) ≡ n ∷ p
      at None o below = impossible (sym (ap is_some (no_scope_under w t n p o)) ∙ h)
      at (Some c) o below = deeper_under q t c n p o ∙ ap (λ p. n ∷ p) (below c (subst (λ (s : Option Scope). IsTrue (is_some s)) (scope_under w t c n p o) h))

  -- no two paths become one
  pub paths_apart : (p r : Path) (w : Place) (q : Seat) (t : Node) → There w t p → There w t r → deeper q t p ≡ deeper q t r → p ≡ r
  paths_apart [] [] w q t there too e = refl
  paths_apart [] (n ∷ r) w q t there (v, x, e) same =
      let (c, at, below) = step_in w t n r v x e in
      let z : ◌≡◌ {A = Path} [] (n ∷ deeper (seat_in q (out-Node t) n) c r) = sym (parent q t c n at).1 ∙ same ∙ deeper_under q t c n r at in
      absurd (cc)
  paths_apart (n ∷ p) [] w q t (v, x, e) too same =
      let (c, at, below) = step_in w t n p v x e in
      let z : ◌≡◌ {A = Path} [] (n ∷ deeper (seat_in q (out-Node t) n) c p) = sym (parent q t c n at).1 ∙ sym same ∙ deeper_under q t c n p at in
      absurd (cc)
  paths_apart (n ∷ p) (l ∷ r) w q t (v, x, e) (y, o, g) same =
      let (c, at, below) = step_in w t n p v x e in
      let (d, at_too, below_too) = step_in w t l r y o g in
      let heads : n ∷ deeper (seat_in q (out-Node t) n) c p ≡ l ∷ deeper (seat_in q (out-Node t) l) d r = sym (deeper_under q t c n p at) ∙ same ∙ deeper_under q t d l r at_too in
      let first : n ≡ l = cc in
      let rest : deeper (seat_in q (out-Node t) n) c p ≡ deeper (seat_in q (out-Node t) l) d r = cc in
      let one : d ≡ c = some_same d c (sym at_too ∙ ap (child t) (sym first) ∙ at) in
      let there : place_at (place_below w t n) c r ≡ Some (y, o) = ap (λ n. place_at (place_below w t n) c r) first ∙ ap (λ c. place_at (place_below w t l) c r) (sym one) ∙ below_too in
      let tails : deeper (seat_in q (out-Node t) n) c p ≡ deeper (seat_in q (out-Node t) n) c r = rest ∙ ap (λ d. deeper (seat_in q (out-Node t) l) d r) one ∙ ap (λ n. deeper (seat_in q (out-Node t) n) c r) (sym first) in
      ap (λ p. n ∷ p) (paths_apart p r (place_below w t n) (seat_in q (out-Node t) n) c (v, x, below) (y, o, there) tails) ∙ ap (λ n. n ∷ r) first
