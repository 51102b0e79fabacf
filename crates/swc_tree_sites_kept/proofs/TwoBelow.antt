-- What is pending twice at a node stands at two paths below it; and what is taken twice.
use Rattle.std.proofs.Common.{◌≡◌, ◌≢◌, ℕ, Bool, true, false, not, ◌&&◌, ◌⊎◌, inl, inr, ⊎_elim, Option, Some, None, [], ◌∷◌, ◌++◌, refl, sym, ap, ◌∙◌, subst, cond, ◌↔◌}
use Rattle.std.specs.List.{filter, slice_get}
use Rattle.std.specs.Prelude.{nat_eq}
use Rattle.std.specs.Cmp.Lexicographic.{pointwise, same_text, other_text}
use Rattle.swc_tree_marks.specs.declared.ident.Ident.{Ident}
use Rattle.swc_tree_node.specs.declared.kind.Kind.{Kind}
use Rattle.swc_tree_node.specs.declared.node.Node.{Node, Identifier, out-Node}
use Rattle.swc_tree_node.specs.declared.node.Node.TheOpen.{Node-F}
use Rattle.swc_tree_node.specs.declared.node.Node.TheVariants.{outs-Identifier}
use Rattle.swc_tree_scoping.specs.declared.places.Place.{Place}
use Rattle.swc_tree_scoping.specs.declared.places.Scope.{Scope}
use Rattle.swc_tree_scoping.specs.declared.places.Standing.{Standing}
use Rattle.swc_tree_scoping.specs.declared.places.View.{View}
use Rattle.swc_tree_scoping.specs.Places.{Path, child, children_in, is_inside, opened, opened_in, place_at, place_below}
use Rattle.swc_tree_scoping.specs.Scopes.{is_binding, is_taken, takes, view_in}
use Rattle.swc_tree_scoping.proofs.Under.{by_children, each_in-at, no_place_under, place_under}
use Rattle.swc_tree_sites.specs.Sites.{Binding, Sites, in_scope, kids, pending_where, sites_in, taken_in, taken_of}
use Rattle.swc_tree_sites.specs.Smaller.{In}
use Rattle.swc_tree_sites.proofs.Loose.{AtMostHere, Below, S, each_in_from, is_no_identifier, lowered, or_else, own, pends, plain_is, some_same, split_taken, step_is, taker_in, taker_under}
use Rattle.swc_tree_sites.proofs.Round.{taken_by, taken_is, taken_there}
use Rattle.swc_tree_sites_kept.proofs.Twice.{Once, Passes, Split, Twice, halves_from, halves_to, merged, merged_joined, merged_views, merged_where, split_from, split_map, split_to, Either}

-- two bindings at two paths, both taken by that scope below the node or by none
pub record TwoBelow (w : Place) (t : Node) (b c : Binding) (o : Option Path) : Type 0 where
  pub one : Below w t b o
  pub other : Below w t c o
  pub apart : one.path ≢ other.path

tails : (j : ℕ) (p q : Path) → j ∷ p ≡ j ∷ q → p ≡ q
tails j p q e = cc

heads : (j k : ℕ) (p q : Path) → j ∷ p ≡ k ∷ q → j ≡ k
heads j k p q e = cc

-- what stands below a child stands below the node
abbrev raised : (w : Place) (t c : Node) (b : Binding) (j : ℕ) (x o : Option Path) → child t j ≡ Some c → Below (place_below w t j) c b x → or_else (lowered j x) (own (opened w t) (view_in (out-Node t) j) b.0) ≡ o → Below w t b o
raised w t c b j x o h g e = record {
  path = j ∷ g.path;
  place = g.place;
  kind = g.kind;
  stands = place_under w t c j g.path h ∙ g.stands;
  stands_so = g.stands_so;
  binds = g.binds;
  taken = taker_under w t c b.0 j g.path h ∙ ap (λ x. or_else (lowered j x) (own (opened w t) (view_in (out-Node t) j) b.0)) g.taken ∙ e;
}

-- ... and the other way: the child, and where in it
record InChild (w : Place) (t : Node) (b : Binding) (p : Path) (x o : Option Path) (j : ℕ) (c : Node) : Type 0 where
  there : child t j ≡ Some c
  below : Below (place_below w t j) c b x
  owns : own (opened w t) (view_in (out-Node t) j) b.0 ≡ o
  path_is : p ≡ j ∷ below.path

abbrev Lowered : Place → Node → Binding → Path → Option Path → Option Path → Type 0
Lowered w t b p x o = (j : ℕ) × (c : Node) × InChild w t b p x o j c

lower_one : (w : Place) (t : Node) (b : Binding) (o : Option Path) → AtMostHere o → is_no_identifier (out-Node t) ≡ true → (g : Below w t b o) → Lowered w t b g.path None o
lower_one w t b o m n g = at g.path g.stands g.taken
  where
    at : (p : Path) → place_at w t p ≡ Some (g.place, Identifier g.kind b.1) → taker_in w t b.0 p ≡ o → Lowered w t b p None o
    at [] h e =
        let is : t ≡ Identifier g.kind b.1 = ap (λ (q : Place × Node). q.1) (some_same (w, t) (g.place, Identifier g.kind b.1) h) in
        let z = sym n ∙ ap (λ t. is_no_identifier (out-Node t)) is ∙ ap is_no_identifier (outs-Identifier g.kind b.1) in
        absurd (cc)
    at (j ∷ p) h e = by (child t j) refl
      where
        by : (c : Option Node) → child t j ≡ c → Lowered w t b (j ∷ p) None o
        by None z = let y = sym h ∙ no_place_under w t j p z in absurd (cc)
        by (Some c) z =
            let (first, second) = split_taken j (taker_in (place_below w t j) c b.0 p) (own (opened w t) (view_in (out-Node t) j) b.0) o m (sym (taker_under w t c b.0 j p z) ∙ e) in (
              j,
              c,
              record {
                there = z;
                below = record { path = p; place = g.place; kind = g.kind; stands = sym (place_under w t c j p z) ∙ h; stands_so = g.stands_so; binds = g.binds; taken = first };
                owns = second;
                path_is = refl;
              },
            )

some_node : (c d : Node) → Some c ≡ Some d → c ≡ d
some_node c d e = cc

-- whether two numbers are one
decide : (j k : ℕ) → (j ≡ k) ⊎ (j ≢ k)
decide j k = at (pointwise nat_eq (j ∷ []) (k ∷ [])) refl
  where
    at : (z : Bool) → pointwise nat_eq (j ∷ []) (k ∷ []) ≡ z → (j ≡ k) ⊎ (j ≢ k)
    at true e = inl (heads j k [] [] (same_text (j ∷ []) (k ∷ []) (sym e)))
    at false e = inr (λ h. other_text (j ∷ []) (k ∷ []) (sym e) (ap (λ j. j ∷ []) h))

-- the children of a node that two bindings stand below
abbrev OneChild : Place → Node → Binding → Binding → Option Path → Type 0
OneChild w t b c o = (j : ℕ) × (d : Node) × (child t j ≡ Some d) × TwoBelow (place_below w t j) d b c None × (own (opened w t) (view_in (out-Node t) j) b.0 ≡ o) × (own (opened w t) (view_in (out-Node t) j) c.0 ≡ o)

abbrev TwoChildren : Place → Node → Binding → Binding → Option Path → Type 0
TwoChildren w t b c o = (j k : ℕ) × (d e : Node) × (j ≢ k) × (child t j ≡ Some d) × (child t k ≡ Some e) × Below (place_below w t j) d b None × Below (place_below w t k) e c None
    × (own (opened w t) (view_in (out-Node t) j) b.0 ≡ o) × (own (opened w t) (view_in (out-Node t) k) c.0 ≡ o)

lower_two : (w : Place) (t : Node) (b c : Binding) (o : Option Path) → AtMostHere o → is_no_identifier (out-Node t) ≡ true → TwoBelow w t b c o → OneChild w t b c o ⊎ TwoChildren w t b c o
lower_two w t b c o m n g = at (lower_one w t b o m n g.one) (lower_one w t c o m n g.other)
  where
    at : Lowered w t b g.one.path None o → Lowered w t c g.other.path None o → OneChild w t b c o ⊎ TwoChildren w t b c o
    at (j, d, x) (k, e, y) = ⊎_elim same (λ ne. inr (j, k, d, e, ne, x.there, y.there, x.below, y.below, x.owns, y.owns)) (decide j k)
      where
        same : j ≡ k → OneChild w t b c o ⊎ TwoChildren w t b c o
        same z = joined (subst (λ k. InChild w t c g.other.path None o k e) (sym z) y)
          where
            joined : InChild w t c g.other.path None o j e → OneChild w t b c o ⊎ TwoChildren w t b c o
            joined y = met (subst (InChild w t c g.other.path None o j) (some_node e d (sym y.there ∙ x.there)) y)
              where
                met : InChild w t c g.other.path None o j d → OneChild w t b c o ⊎ TwoChildren w t b c o
                met y = inl (j, d, x.there, record { one = x.below; other = y.below; apart = λ z. g.apart (x.path_is ∙ ap (λ p. j ∷ p) z ∙ sym y.path_is) }, x.owns, y.owns)

abbrev PendsTwice : Node → Type 0
PendsTwice t = (w : Place) (b c : Binding) → Twice b c (S w t).pending ↔ TwoBelow w t b c None

module _ (w : Place) (t : Node) (below : (j : ℕ) (d : Node) → child t j ≡ Some d → PendsTwice d) (b c : Binding) where
  abbrev Owns : Option Path → ℕ → Binding → Type 0
  Owns o j x = own (opened w t) (view_in (out-Node t) j) x.0 ≡ o

  -- a child's sites and the child
  kid_of : (j : ℕ) (a : Sites) → slice_get (kids w t) j ≡ Some a → (d : Node) × (child t j ≡ Some d) × (a ≡ S (place_below w t j) d)
  kid_of j a h = each_in_from (place_below w t) (children_in (out-Node t)) j a h

  kid_at : (j : ℕ) (d : Node) → child t j ≡ Some d → slice_get (kids w t) j ≡ Some (S (place_below w t j) d)
  kid_at j d h = each_in-at S (place_below w t) (children_in (out-Node t)) j d h

  once_below : (o : Option Path) (x : Binding) (z : Once (Owns o) x (kids w t)) → (g : Below w t x o) × (p : Path) × (g.path ≡ z.child ∷ p)
  once_below o x z =
      let (d, h, is) = kid_of z.child z.of z.there in
      let g = (pends d (place_below w t z.child) x).0 (subst (λ (s : Sites). In x s.pending) is z.within) in
      (raised w t d x z.child None o h g z.fine, g.path, refl)

  split_below : (o : Option Path) → Split (Owns o) b c (kids w t) → TwoBelow w t b c o
  split_below o (inl z) =
      let (d, h, is) = kid_of z.child z.of z.there in
      let g = (below z.child d h (place_below w t z.child) b c).0 (subst (λ (s : Sites). Twice b c s.pending) is z.within) in record {
        one = raised w t d b z.child None o h g.one z.first_fine;
        other = raised w t d c z.child None o h g.other z.second_fine;
        apart = λ e. g.apart (tails z.child g.one.path g.other.path e);
      }
  split_below o (inr z) =
      let (g, p, e) = once_below o b z.first in
      let (h, q, f) = once_below o c z.second in
      record { one = g; other = h; apart = λ same. z.different (heads z.first.child z.second.child p q (sym e ∙ same ∙ f)) }

  below_split : (o : Option Path) → AtMostHere o → is_no_identifier (out-Node t) ≡ true → TwoBelow w t b c o → Split (Owns o) b c (kids w t)
  below_split o m n g = ⊎_elim one two (lower_two w t b c o m n g)
    where
      one : OneChild w t b c o → Split (Owns o) b c (kids w t)
      one (j, d, h, g, x, y) = inl (record { child = j; of = S (place_below w t j) d; there = kid_at j d h; within = (below j d h (place_below w t j) b c).1 g; first_fine = x; second_fine = y })

      two : TwoChildren w t b c o → Split (Owns o) b c (kids w t)
      two (j, k, d, e, ne, h, i, x, y, u, v) = inr (record {
        first = record { child = j; of = S (place_below w t j) d; there = kid_at j d h; within = (pends d (place_below w t j) b).1 x; fine = u };
        second = record { child = k; of = S (place_below w t k) e; there = kid_at k e i; within = (pends e (place_below w t k) c).1 y; fine = v };
        different = ne;
      })

  abbrev views : ℕ → View
  views = view_in (out-Node t)

  -- what a scope takes
  abbrev inner : Scope → ℕ → Binding → Bool
  inner s j x = is_inside (views j) && takes x.0 s

  own_taken : (s : Scope) → opened w t ≡ Some s → (j : ℕ) (x : Binding) → inner s j x ≡ true → Owns (Some []) j x
  own_taken s e j x h = ap (λ o. own o (views j) x.0) e ∙ at (takes x.0 s) (is_inside (views j)) h
    where
      at : (y z : Bool) → (z && y) ≡ true → ◌≡◌ {A = Option Path} (cond (y && z) (Some []) None) (Some [])
      at true true h = refl
      at true false h = absurd (cc)
      at false true h = absurd (cc)
      at false false h = absurd (cc)

  taken_own : (s : Scope) → opened w t ≡ Some s → (j : ℕ) (x : Binding) → Owns (Some []) j x → inner s j x ≡ true
  taken_own s e j x h = at (takes x.0 s) (is_inside (views j)) (ap (λ o. own o (views j) x.0) (sym e) ∙ h)
    where
      at : (y z : Bool) → ◌≡◌ {A = Option Path} (cond (y && z) (Some []) None) (Some []) → (z && y) ≡ true
      at true true h = refl
      at true false h = absurd (cc)
      at false z h = absurd (cc)

  pub taken_twice_from : (s : Scope) → opened w t ≡ Some s → Twice b c (taken_of s views (kids w t)) → TwoBelow w t b c (Some [])
  taken_twice_from s e h =
      split_below (Some []) (split_map (Passes (inner s)) (Owns (Some [])) b c (kids w t) (own_taken s e)
      (split_from (inner s) b c (kids w t) (subst (Twice b c) (merged_where is_inside (λ x. takes x.0 s) views (kids w t)) h)))

  pub taken_twice_to : (s : Scope) → opened w t ≡ Some s → is_no_identifier (out-Node t) ≡ true → TwoBelow w t b c (Some []) → Twice b c (taken_of s views (kids w t))
  taken_twice_to s e n g =
      subst (Twice b c) (sym (merged_where is_inside (λ x. takes x.0 s) views (kids w t)))
      (split_to (inner s) b c (kids w t) (split_map (Owns (Some [])) (Passes (inner s)) b c (kids w t) (taken_own s e) (below_split (Some []) tt n g)))

  -- what is left
  abbrev outer : ℕ → Binding → Bool
  outer j x = not (is_inside (views j))

  abbrev left : Scope → ℕ → Binding → Bool
  left s j x = is_inside (views j) && not (takes x.0 s)

  never : (s : Scope) (j : ℕ) (x y : Binding) → outer j x ≡ true → left s j y ≡ true → ⊥
  never s j x y h g = at (is_inside (views j)) (not (takes y.0 s)) h g
    where
      at : (u v : Bool) → not u ≡ true → (u && v) ≡ true → ⊥
      at true v h g = absurd (cc)
      at false v h g = absurd (cc)

  own_left : (s : Scope) → opened w t ≡ Some s → (j : ℕ) (x : Binding) → Either outer (left s) (never s) b c (kids w t) j x → Owns None j x
  own_left s e j x h = ap (λ o. own o (views j) x.0) e ∙ at (takes x.0 s) (is_inside (views j)) h
    where
      at : (y z : Bool) → (not z ≡ true) ⊎ ((z && not y) ≡ true) → ◌≡◌ {A = Option Path} (cond (y && z) (Some []) None) None
      at true true (inl h) = absurd (cc)
      at true true (inr h) = absurd (cc)
      at true false h = refl
      at false z h = refl

  left_own : (s : Scope) → opened w t ≡ Some s → (j : ℕ) (x : Binding) → Owns None j x → Either outer (left s) (never s) b c (kids w t) j x
  left_own s e j x h = at (takes x.0 s) (is_inside (views j)) (ap (λ o. own o (views j) x.0) (sym e) ∙ h)
    where
      at : (y z : Bool) → ◌≡◌ {A = Option Path} (cond (y && z) (Some []) None) None → (not z ≡ true) ⊎ ((z && not y) ≡ true)
      at true true h = absurd (cc)
      at true false h = inl refl
      at false true h = inr refl
      at false false h = inl refl

  left_is : (s : Scope) → (in_scope (Some s) views (kids w t)).pending ≡ merged outer (kids w t) ++ merged (left s) (kids w t)
  left_is s =
      ap (λ l. l ++ filter (λ x. not (takes x.0 s)) (pending_where is_inside views (kids w t))) (merged_views (λ v. not (is_inside v)) views (kids w t))
      ∙ ap (λ l. merged outer (kids w t) ++ l) (merged_where is_inside (λ x. not (takes x.0 s)) views (kids w t))

  scope_twice : (o : Option Scope) → opened w t ≡ o → is_no_identifier (out-Node t) ≡ true → Twice b c (in_scope o views (kids w t)).pending ↔ TwoBelow w t b c None
  scope_twice None e n = (
    (λ h. split_below None (split_map (Passes (λ j x. true)) (Owns None) b c (kids w t) (λ j x z. ap (λ o. own o (views j) x.0) e) (split_from (λ j x. true) b c (kids w t) (subst (Twice b c) (merged_joined (kids w t)) h)))),
    (λ g. subst (Twice b c) (sym (merged_joined (kids w t))) (split_to (λ j x. true) b c (kids w t) (split_map (Owns None) (Passes (λ j x. true)) b c (kids w t) (λ j x z. refl) (below_split None tt n g)))),
  )
  scope_twice (Some s) e n = (
    (λ h. split_below None (split_map (Either outer (left s) (never s) b c (kids w t)) (Owns None) b c (kids w t) (own_left s e) (halves_from outer (left s) (never s) b c (kids w t) (subst (Twice b c) (left_is s) h)))),
    (λ g. subst (Twice b c) (sym (left_is s)) (halves_to outer (left s) (never s) b c (kids w t) (split_map (Owns None) (Either outer (left s) (never s) b c (kids w t)) b c (kids w t) (left_own s e) (below_split None tt n g)))),
  )

-- an identifier is one
one_path : (w : Place) (t : Node) (k : Kind) (i : Ident) (b : Binding) (o : Option Path) → out-Node t ≡ Node-F.Identifier k i → (g : Below w t b o) → g.path ≡ []
one_path w t k i b o is g = at g.path g.stands
  where
    at : (p : Path) → place_at w t p ≡ Some (g.place, Identifier g.kind b.1) → p ≡ []
    at [] h = refl
    at (j ∷ p) h =
        let none : child t j ≡ None = ap (λ y. slice_get (children_in y) j) is in
        let y = sym h ∙ no_place_under w t j p none in
        absurd (cc)

no_two : (z : Bool) (x b c : Binding) → Twice b c (cond z (x ∷ []) []) → ⊥
no_two true x b c (inl h) = h.1
no_two true x b c (inr (inl h)) = h.1
no_two true x b c (inr (inr h)) = h
no_two false x b c h = h

other_twice : (t : Node) → ((j : ℕ) (d : Node) → child t j ≡ Some d → PendsTwice d) → (w : Place) (b c : Binding) → is_no_identifier (out-Node t) ≡ true → Twice b c (S w t).pending ↔ TwoBelow w t b c None
other_twice t below w b c n =
    let is = step_is w t ∙ plain_is w (out-Node t) (opened w t) (view_in (out-Node t)) (kids w t) n in
    let (forth, back) = scope_twice w t below b c (opened w t) refl n in
    (λ h. forth (subst (λ (s : Sites). Twice b c s.pending) is h), λ g. subst (λ (s : Sites). Twice b c s.pending) (sym is) (back g))

twice_in : (t : Node) → ((j : ℕ) (d : Node) → child t j ≡ Some d → PendsTwice d) → (y : Node-F Node) → out-Node t ≡ y → PendsTwice t
twice_in t below (Node-F.Identifier k i) o w b c = (
  (λ h. absurd (no_two (is_binding w.standing) (w.standing, i) b c (subst (λ (s : Sites). Twice b c s.pending) (step_is w t ∙ ap (λ y. sites_in w y (opened w t) (view_in (out-Node t)) (kids w t)) o) h))),
  (λ g. absurd (g.apart (one_path w t k i b None o g.one ∙ sym (one_path w t k i c None o g.other)))),
)
twice_in t below Node-F.Absent o w b c = other_twice t below w b c (ap is_no_identifier o)
twice_in t below (Node-F.Flag x) o w b c = other_twice t below w b c (ap is_no_identifier o)
twice_in t below (Node-F.Word x) o w b c = other_twice t below w b c (ap is_no_identifier o)
twice_in t below (Node-F.Text x) o w b c = other_twice t below w b c (ap is_no_identifier o)
twice_in t below (Node-F.Span x) o w b c = other_twice t below w b c (ap is_no_identifier o)
twice_in t below (Node-F.List x) o w b c = other_twice t below w b c (ap is_no_identifier o)
twice_in t below (Node-F.Tree k x) o w b c = other_twice t below w b c (ap is_no_identifier o)

pends_twice : (t : Node) → PendsTwice t
pends_twice = by_children PendsTwice (λ t below. twice_in t below (out-Node t) refl)

-- what a node's own scope takes
opener : (w : Place) (t : Node) (s : Scope) (y : Node-F Node) → out-Node t ≡ y → opened w t ≡ Some s → is_no_identifier y ≡ true
opener w t s (Node-F.Identifier k i) o e = let z : Some s ≡ None = sym e ∙ ap (opened_in w) o in absurd (cc)
opener w t s Node-F.Absent o e = refl
opener w t s _ o e = refl

here : (w : Place) (t : Node) (b c : Binding) (o : Option Scope) → opened w t ≡ o → ((x : Binding) → In x (taken_in w t o) ↔ Below w t x (Some [])) → Twice b c (taken_in w t o) ↔ TwoBelow w t b c (Some [])
here w t b c None e one = ((λ h. absurd h), (λ g. absurd ((one b).1 g.one)))
here w t b c (Some s) e one = (taken_twice_from w t (λ j d h. pends_twice d) b c s e, taken_twice_to w t (λ j d h. pends_twice d) b c s e (opener w t s (out-Node t) refl e))

-- by the first step of the scope's path
own_cases : (r : Standing) (o : Option Scope) (v : View) → (own o v r ≡ None) ⊎ (own o v r ≡ Some [])
own_cases r o v = next (is_taken r o && is_inside v)
  where
    next : (b : Bool) → (◌≡◌ {A = Option Path} (cond b (Some []) None) None) ⊎ (◌≡◌ {A = Option Path} (cond b (Some []) None) (Some []))
    next true = inr refl
    next false = inl refl

step_of : (j k : ℕ) (s : Path) (x y : Option Path) → (y ≡ None) ⊎ (y ≡ Some []) → or_else (lowered k x) y ≡ Some (j ∷ s) → (k ≡ j) × (x ≡ Some s)
step_of j k s None y (inl z) e = absurd (cc)
step_of j k s None y (inr z) e = absurd (cc)
step_of j k s (Some q) y z e = let first : k ≡ j = cc in let rest : q ≡ s = cc in (first, ap (λ q. Some q) rest)

-- what a scope below takes, by the child that it is in
record Deeper (w : Place) (t : Node) (b : Binding) (p s : Path) (j : ℕ) (c : Node) : Type 0 where
  there : child t j ≡ Some c
  below : Below (place_below w t j) c b (Some s)
  path_is : p ≡ j ∷ below.path

deeper : (w : Place) (t : Node) (b : Binding) (j : ℕ) (s : Path) → (g : Below w t b (Some (j ∷ s))) → (c : Node) × Deeper w t b g.path s j c
deeper w t b j s g = at g.path g.stands g.taken
  where
    at : (p : Path) → place_at w t p ≡ Some (g.place, Identifier g.kind b.1) → taker_in w t b.0 p ≡ Some (j ∷ s) → (c : Node) × Deeper w t b p s j c
    at [] h e = absurd (cc)
    at (k ∷ p) h e = by (child t k) refl
      where
        by : (c : Option Node) → child t k ≡ c → (c : Node) × Deeper w t b (k ∷ p) s j c
        by None z = let y = sym h ∙ no_place_under w t k p z in absurd (cc)
        by (Some c) z =
            let (first, inner) = step_of j k s (taker_in (place_below w t k) c b.0 p) (own (opened w t) (view_in (out-Node t) k) b.0) (own_cases b.0 (opened w t) (view_in (out-Node t) k)) (sym (taker_under w t c b.0 k p z) ∙ e) in
            subst (λ j. (c : Node) × Deeper w t b (k ∷ p) s j c) first (
              c,
              record {
                there = z;
                below = record { path = p; place = g.place; kind = g.kind; stands = sym (place_under w t c k p z) ∙ h; stands_so = g.stands_so; binds = g.binds; taken = inner };
                path_is = refl;
              },
            )

deeper_two : (w : Place) (t c : Node) (a b : Binding) (j : ℕ) (s : Path) → child t j ≡ Some c → TwoBelow w t a b (Some (j ∷ s)) → TwoBelow (place_below w t j) c a b (Some s)
deeper_two w t c a b j s h g = at (deeper w t a j s g.one) (deeper w t b j s g.other)
  where
    at : (d : Node) × Deeper w t a g.one.path s j d → (e : Node) × Deeper w t b g.other.path s j e → TwoBelow (place_below w t j) c a b (Some s)
    at (d, x) (e, y) =
        let u = subst (Deeper w t a g.one.path s j) (some_node d c (sym x.there ∙ h)) x in
        let v = subst (Deeper w t b g.other.path s j) (some_node e c (sym y.there ∙ h)) y in
        record { one = u.below; other = v.below; apart = λ z. g.apart (u.path_is ∙ ap (λ p. j ∷ p) z ∙ sym v.path_is) }

higher_two : (w : Place) (t c : Node) (a b : Binding) (j : ℕ) (s : Path) → child t j ≡ Some c → TwoBelow (place_below w t j) c a b (Some s) → TwoBelow w t a b (Some (j ∷ s))
higher_two w t c a b j s h g = record { one = raised w t c a j (Some s) (Some (j ∷ s)) h g.one refl; other = raised w t c b j (Some s) (Some (j ∷ s)) h g.other refl; apart = λ e. g.apart (tails j g.one.path g.other.path e) }

-- what a scope takes twice are two bindings whose nearest taker it is
pub taken_twice : (s : Path) (w : Place) (t : Node) (b c : Binding) → Twice b c (taken_by w t s) ↔ TwoBelow w t b c (Some s)
taken_twice [] w t b c = here w t b c (opened w t) refl (λ x. taken_is [] w t x)
taken_twice (j ∷ s) w t b c = at (child t j) refl (λ d. taken_twice s (place_below w t j) d b c)
  where
    at : (o : Option Node) → child t j ≡ o → ((d : Node) → Twice b c (taken_by (place_below w t j) d s) ↔ TwoBelow (place_below w t j) d b c (Some s)) → Twice b c (taken_by w t (j ∷ s)) ↔ TwoBelow w t b c (Some (j ∷ s))
    at None z below = (
      (λ h. absurd (subst (λ o. Twice b c (taken_there o)) (no_place_under w t j s z) h)),
      (λ g. let (d, x) = deeper w t b j s g.one in let none = sym x.there ∙ z in absurd (cc)),
    )
    at (Some d) z below = (
      (λ h. higher_two w t d b c j s z ((below d).0 (subst (λ o. Twice b c (taken_there o)) (place_under w t d j s z) h))),
      (λ g. subst (λ o. Twice b c (taken_there o)) (sym (place_under w t d j s z)) ((below d).1 (deeper_two w t d b c j s z g))),
    )
