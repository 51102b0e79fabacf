-- What is pending at a node stands below it, where no scope in it takes it; and what is taken by its scope.
use Rattle.std.proofs.Common.{◌≡◌, ℕ, zero, suc, Bool, true, false, not, ◌&&◌, ◌⊎◌, inl, inr, ⊎_elim, Option, Some, None, List, [], ◌∷◌, ◌++◌, map, refl, sym, ap, ◌∙◌, subst, cond, ◌↔◌}
use Rattle.std.specs.List.{slice_get, filter}
use Rattle.swc_tree_marks.specs.declared.ident.Ident.{Ident}
use Rattle.swc_tree_node.specs.declared.kind.Kind.{Kind}
use Rattle.swc_tree_node.specs.declared.node.Node.{Node, Identifier, out-Node}
use Rattle.swc_tree_node.specs.declared.node.Node.TheOpen.{Node-F}
use Rattle.swc_tree_scoping.specs.declared.places.Standing.{Standing}
use Rattle.swc_tree_scoping.specs.declared.places.Place.{Place}
use Rattle.swc_tree_scoping.specs.declared.places.Scope.{Scope}
use Rattle.swc_tree_scoping.specs.declared.places.View.{View}
use Rattle.swc_tree_scoping.specs.declared.places.View.TheVariants as view
use Rattle.swc_tree_node.specs.declared.node.Node.TheVariants.{outs-Identifier}
use Rattle.swc_tree_scoping.specs.Places.{Path, child, children_in, place_at, place_below, opened, is_inside}
use Rattle.swc_tree_scoping.specs.Scopes.{Round, first_that, is_binding, is_taken, rounds, scope_at, seen_as, takes, view_in}
use Rattle.swc_tree_scoping.specs.Folds.{each_in}
use Rattle.swc_tree_scoping.proofs.Remarked.{identifier_is}
use Rattle.swc_tree_scoping.proofs.Under.{no_place_under, by_children, fold_in_place_out, each_in-at, lower, place_under, rounds_under, scope_under}
use Rattle.swc_tree_sites.specs.Sites.{Binding, Sites, in_scope, joined, pending_where, sites_in, sites_of, sites_step, taken_of}
use Rattle.swc_tree_sites.specs.Smaller.{In}
use Rattle.swc_tree_sites.specs.Sites.{kids}

abbrev pub S : Place → Node → Sites
S = sites_of

pub in_cases : {X : Type 0} (x : X) (xs ys : List X) → In x (xs ++ ys) → In x xs ⊎ In x ys
in_cases x [] ys h = inr h
in_cases x (z ∷ xs) ys (inl h) = inl (inl h)
in_cases x (z ∷ xs) ys (inr h) = ⊎_elim (λ a. inl (inr a)) inr (in_cases x xs ys h)

pub in_left : {X : Type 0} (x : X) (xs ys : List X) → In x xs → In x (xs ++ ys)
in_left x [] ys h = absurd h
in_left x (z ∷ xs) ys (inl h) = inl h
in_left x (z ∷ xs) ys (inr h) = inr (in_left x xs ys h)

pub in_right : {X : Type 0} (x : X) (xs ys : List X) → In x ys → In x (xs ++ ys)
in_right x [] ys h = h
in_right x (z ∷ xs) ys h = inr (in_right x xs ys h)

in_filter : {X : Type 0} (f : X → Bool) (x : X) (xs : List X) → In x (filter f xs) → In x xs × (f x ≡ true)
in_filter f x [] h = absurd h
in_filter f x (y ∷ ys) h = next (f y) refl h (in_filter f x ys)
  where
    next : (b : Bool) → f y ≡ b → In x (cond b (y ∷ filter f ys) (filter f ys)) → (In x (filter f ys) → In x ys × (f x ≡ true)) → ((y ≡ x) ⊎ In x ys) × (f x ≡ true)
    next true e (inl g) rest = (inl g, subst (λ z. f z ≡ true) g e)
    next true e (inr g) rest = let (a, b) = rest g in (inr a, b)
    next false e g rest = let (a, b) = rest g in (inr a, b)

filter_in : {X : Type 0} (f : X → Bool) (x : X) (xs : List X) → In x xs → f x ≡ true → In x (filter f xs)
filter_in f x [] h e = absurd h
filter_in f x (y ∷ ys) h e = next (f y) refl h (λ g. filter_in f x ys g e)
  where
    next : (b : Bool) → f y ≡ b → (y ≡ x) ⊎ In x ys → (In x ys → In x (filter f ys)) → In x (cond b (y ∷ filter f ys) (filter f ys))
    next true g (inl h) rest = inl h
    next true g (inr h) rest = inr (rest h)
    next false g (inl h) rest = let z : f x ≡ false = subst (λ z. f z ≡ false) h g in absurd (cc)
    next false g (inr h) rest = rest h

-- in which child it is pending
pending_from : (f : View → Bool) (b : Binding) (cs : List Sites) (views : ℕ → View) → In b (pending_where f views cs) → (j : ℕ) × (c : Sites) × (slice_get cs j ≡ Some c) × In b c.pending × (f (views j) ≡ true)
pending_from f b [] views h = absurd h
pending_from f b (c ∷ cs) views h = ⊎_elim (here (f (views zero)) refl) (λ g. let (j, d, e, i, v) = pending_from f b cs (λ i. views (suc i)) g in (suc j, d, e, i, v))
    (in_cases b (cond (f (views zero)) c.pending []) (pending_where f (λ i. views (suc i)) cs) h)
  where
    here : (z : Bool) → f (views zero) ≡ z → In b (cond z c.pending []) → (j : ℕ) × (d : Sites) × (slice_get (c ∷ cs) j ≡ Some d) × In b d.pending × (f (views j) ≡ true)
    here true e g = (zero, c, refl, g, e)
    here false e g = absurd g

pending_to : (f : View → Bool) (b : Binding) (cs : List Sites) (views : ℕ → View) (j : ℕ) (c : Sites) → slice_get cs j ≡ Some c → In b c.pending → f (views j) ≡ true → In b (pending_where f views cs)
pending_to f b [] views j c h g v = absurd (cc)
pending_to f b (d ∷ cs) views zero c h g v =
    let same : d ≡ c = cc in
    in_left b (cond (f (views zero)) d.pending []) (pending_where f (λ i. views (suc i)) cs) (subst (λ z. In b (cond z d.pending [])) (sym v) (subst (λ (s : Sites). In b s.pending) (sym same) g))
pending_to f b (d ∷ cs) views (suc j) c h g v = in_right b (cond (f (views zero)) d.pending []) (pending_where f (λ i. views (suc i)) cs) (pending_to f b cs (λ i. views (suc i)) j c h g v)

joined_from : (b : Binding) (cs : List Sites) → In b (joined cs).pending → (j : ℕ) × (c : Sites) × (slice_get cs j ≡ Some c) × In b c.pending
joined_from b [] h = absurd h
joined_from b (c ∷ cs) h = ⊎_elim (λ g. (zero, c, refl, g)) (λ g. let (j, d, e, i) = joined_from b cs g in (suc j, d, e, i)) (in_cases b c.pending (joined cs).pending h)

joined_to : (b : Binding) (cs : List Sites) (j : ℕ) (c : Sites) → slice_get cs j ≡ Some c → In b c.pending → In b (joined cs).pending
joined_to b [] j c h g = absurd (cc)
joined_to b (d ∷ cs) zero c h g = let same : d ≡ c = cc in in_left b d.pending (joined cs).pending (subst (λ (s : Sites). In b s.pending) (sym same) g)
joined_to b (d ∷ cs) (suc j) c h g = in_right b d.pending (joined cs).pending (joined_to b cs j c h g)

pub each_in_from : (places : ℕ → Place) (ts : List Node) (j : ℕ) (a : Sites) → slice_get (each_in S places ts) j ≡ Some a → (t : Node) × (slice_get ts j ≡ Some t) × (a ≡ S (places j) t)
each_in_from places [] j a h = absurd (cc)
each_in_from places (t ∷ ts) zero a h = let same : S (places zero) t ≡ a = cc in (t, refl, sym same)
each_in_from places (t ∷ ts) (suc j) a h = each_in_from (λ i. places (suc i)) ts j a h

-- the nearest scope in a node that takes what stands so
abbrev pub test : Place → Node → Standing → Round → Bool
test w t r s = is_taken r (scope_at w t s.0)

abbrev pub taker_in : Place → Node → Standing → Path → Option Path
taker_in w t r p = first_that (test w t r) (rounds w t p)

abbrev pub or_else : Option Path → Option Path → Option Path
or_else None b = b
or_else (Some a) b = Some a

abbrev pub lowered : ℕ → Option Path → Option Path
lowered j None = None
lowered j (Some p) = Some (j ∷ p)

first_append : (f : Round → Bool) (ss us : List Round) → first_that f (ss ++ us) ≡ or_else (first_that f ss) (first_that f us)
first_append f [] us = refl
first_append f (s ∷ ss) us = next (f s) (first_append f ss us)
  where
    next : (b : Bool) → first_that f (ss ++ us) ≡ or_else (first_that f ss) (first_that f us) → cond b (Some s.0) (first_that f (ss ++ us)) ≡ or_else (cond b (Some s.0) (first_that f ss)) (first_that f us)
    next true e = refl
    next false e = e

first_lowered : (f g : Round → Bool) (j : ℕ) (ss : List Round) → ((s : Round) → f (lower j s) ≡ g s) → first_that f (map (lower j) ss) ≡ lowered j (first_that g ss)
first_lowered f g j [] h = refl
first_lowered f g j (s ∷ ss) h = ap (λ b. cond b (Some (j ∷ s.0)) (first_that f (map (lower j) ss))) (h s) ∙ next (g s) (first_lowered f g j ss h)
  where
    next : (b : Bool) → first_that f (map (lower j) ss) ≡ lowered j (first_that g ss) → cond b (Some (j ∷ s.0)) (first_that f (map (lower j) ss)) ≡ lowered j (cond b (Some s.0) (first_that g ss))
    next true e = refl
    next false e = e

-- by the first step of a path
abbrev pub own : Option Scope → View → Standing → Option Path
own o v r = cond (is_taken r o && is_inside v) (Some []) None

own_is : (w : Place) (t : Node) (r : Standing) (o : Option Scope) (v : View) → opened w t ≡ o → first_that (test w t r) (seen_as o v) ≡ own o v r
own_is w t r None v e = refl
own_is w t r (Some s) view.Outside e = next (takes r s)
  where
    next : (b : Bool) → ◌≡◌ {A = Option Path} None (cond (b && false) (Some []) None)
    next true = refl
    next false = refl
own_is w t r (Some s) view.Parameters e = ap (λ o. cond (is_taken r o) (Some []) None) e ∙ next (takes r s)
  where
    next : (b : Bool) → ◌≡◌ {A = Option Path} (cond b (Some []) None) (cond (b && true) (Some []) None)
    next true = refl
    next false = refl
own_is w t r (Some s) view.Whole e = ap (λ o. cond (is_taken r o) (Some []) None) e ∙ next (takes r s)
  where
    next : (b : Bool) → ◌≡◌ {A = Option Path} (cond b (Some []) None) (cond (b && true) (Some []) None)
    next true = refl
    next false = refl

pub taker_under : (w : Place) (t c : Node) (r : Standing) (j : ℕ) (p : Path) → child t j ≡ Some c → taker_in w t r (j ∷ p) ≡ or_else (lowered j (taker_in (place_below w t j) c r p)) (own (opened w t) (view_in (out-Node t) j) r)
taker_under w t c r j p h =
    ap (first_that (test w t r)) (rounds_under w t c j p h) ∙ first_append (test w t r) (map (lower j) (rounds (place_below w t j) c p)) (seen_as (opened w t) (view_in (out-Node t) j))
    ∙ ap (λ o. or_else o (first_that (test w t r) (seen_as (opened w t) (view_in (out-Node t) j)))) (first_lowered (test w t r) (test (place_below w t j) c r) j (rounds (place_below w t j) c p) (λ s. ap (is_taken r) (scope_under w t c j s.0 h)))
    ∙ ap (or_else (lowered j (taker_in (place_below w t j) c r p))) (own_is w t r (opened w t) (view_in (out-Node t) j) refl)

-- an identifier below a node binds so, and is taken there by that scope or by none
pub record Below (w : Place) (t : Node) (b : Binding) (o : Option Path) : Type 0 where
  pub path : Path
  pub place : Place
  pub kind : Kind
  pub stands : place_at w t path ≡ Some (place, Identifier kind b.1)
  pub stands_so : place.standing ≡ b.0
  pub binds : is_binding b.0 ≡ true
  pub taken : taker_in w t b.0 path ≡ o

pub from_child : (w : Place) (t c : Node) (b : Binding) (j : ℕ) (o : Option Path) → child t j ≡ Some c → Below (place_below w t j) c b None → own (opened w t) (view_in (out-Node t) j) b.0 ≡ o → Below w t b o
from_child w t c b j o h g e = record {
  path = j ∷ g.path;
  place = g.place;
  kind = g.kind;
  stands = place_under w t c j g.path h ∙ g.stands;
  stands_so = g.stands_so;
  binds = g.binds;
  taken = taker_under w t c b.0 j g.path h ∙ ap (λ x. or_else (lowered j x) (own (opened w t) (view_in (out-Node t) j) b.0)) g.taken ∙ e;
}

-- what is no path below a child
abbrev pub AtMostHere : Option Path → Type 0
AtMostHere None = Unit {0}
AtMostHere (Some []) = Unit {0}
AtMostHere (Some (i ∷ p)) = ⊥

pub split_taken : (j : ℕ) (x y o : Option Path) → AtMostHere o → or_else (lowered j x) y ≡ o → (x ≡ None) × (y ≡ o)
split_taken j None y o m e = (refl, e)
split_taken j (Some q) y None m e = absurd (cc)
split_taken j (Some q) y (Some []) m e = absurd (cc)
split_taken j (Some q) y (Some (i ∷ p)) m e = absurd m

abbrev pub is_no_identifier : Node-F Node → Bool
is_no_identifier (Node-F.Identifier k i) = false
is_no_identifier _ = true

abbrev pub FromChild : Place → Node → Binding → Option Path → Type 0
FromChild w t b o = (j : ℕ) × (c : Node) × (child t j ≡ Some c) × Below (place_below w t j) c b None × (own (opened w t) (view_in (out-Node t) j) b.0 ≡ o)

pub some_same : (a b : Place × Node) → Some a ≡ Some b → a ≡ b
some_same a b e = cc

pub to_child : (w : Place) (t : Node) (b : Binding) (o : Option Path) → AtMostHere o → is_no_identifier (out-Node t) ≡ true → Below w t b o → FromChild w t b o
to_child w t b o m n g = at g.path g.stands g.taken
  where
    at : (p : Path) → place_at w t p ≡ Some (g.place, Identifier g.kind b.1) → taker_in w t b.0 p ≡ o → FromChild w t b o
    at [] h e =
        let is : t ≡ Identifier g.kind b.1 = ap (λ (q : Place × Node). q.1) (some_same (w, t) (g.place, Identifier g.kind b.1) h) in
        let z = sym n ∙ ap (λ t. is_no_identifier (out-Node t)) is ∙ ap is_no_identifier (outs-Identifier g.kind b.1) in
        absurd (cc)
    at (j ∷ p) h e = by (child t j) refl
      where
        by : (c : Option Node) → child t j ≡ c → FromChild w t b o
        by None z = let y = sym h ∙ no_place_under w t j p z in absurd (cc)
        by (Some c) z =
            let (first, second) = split_taken j (taker_in (place_below w t j) c b.0 p) (own (opened w t) (view_in (out-Node t) j) b.0) o m (sym (taker_under w t c b.0 j p z) ∙ e) in (
              j,
              c,
              z,
              record { path = p; place = g.place; kind = g.kind; stands = sym (place_under w t c j p z) ∙ h; stands_so = g.stands_so; binds = g.binds; taken = first },
              second,
            )

abbrev Pends : Node → Type 0
Pends t = (w : Place) (b : Binding) → In b (S w t).pending ↔ Below w t b None

module _ (w : Place) (t : Node) (below : (j : ℕ) (c : Node) → child t j ≡ Some c → Pends c) (b : Binding) where
  kid_from : (j : ℕ) (a : Sites) (o : Option Path) → slice_get (kids w t) j ≡ Some a → In b a.pending → own (opened w t) (view_in (out-Node t) j) b.0 ≡ o → Below w t b o
  kid_from j a o h g e =
      let (c, z, is) = each_in_from (place_below w t) (children_in (out-Node t)) j a h in
      from_child w t c b j o z ((below j c z (place_below w t j) b).0 (subst (λ (s : Sites). In b s.pending) is g)) e

  kid_to : (o : Option Path) → AtMostHere o → is_no_identifier (out-Node t) ≡ true → Below w t b o
      → (j : ℕ) × (a : Sites) × (slice_get (kids w t) j ≡ Some a) × In b a.pending × (own (opened w t) (view_in (out-Node t) j) b.0 ≡ o)
  kid_to o m n g =
      let (j, c, z, h, e) = to_child w t b o m n g in
      (j, S (place_below w t j) c, each_in-at S (place_below w t) (children_in (out-Node t)) j c z, (below j c z (place_below w t j) b).1 h, e)

  -- what a scope takes stands below it, and is taken by it
  pub taken_from : (s : Scope) → opened w t ≡ Some s → In b (taken_of s (view_in (out-Node t)) (kids w t)) → Below w t b (Some [])
  taken_from s e h =
      let (g, takes_it) = in_filter (λ b. takes b.0 s) b (pending_where is_inside (view_in (out-Node t)) (kids w t)) h in
      let (j, a, z, i, v) = pending_from is_inside b (kids w t) (view_in (out-Node t)) g in
      kid_from j a (Some []) z i (ap (λ o. own o (view_in (out-Node t) j) b.0) e ∙ ap (λ c. cond (c && is_inside (view_in (out-Node t) j)) (Some []) None) takes_it ∙ ap (λ c. cond c (Some []) None) v)

  both_true : (x y : Bool) → ◌≡◌ {A = Option Path} (cond (x && y) (Some []) None) (Some []) → (x ≡ true) × (y ≡ true)
  both_true true true e = (refl, refl)
  both_true true false e = absurd (cc)
  both_true false y e = absurd (cc)

  pub taken_to : (s : Scope) → opened w t ≡ Some s → is_no_identifier (out-Node t) ≡ true → Below w t b (Some []) → In b (taken_of s (view_in (out-Node t)) (kids w t))
  taken_to s e n g =
      let (j, a, z, i, o) = kid_to (Some []) tt n g in
      let (x, y) = both_true (takes b.0 s) (is_inside (view_in (out-Node t) j)) (ap (λ o. own o (view_in (out-Node t) j) b.0) (sym e) ∙ o) in
      filter_in (λ b. takes b.0 s) b (pending_where is_inside (view_in (out-Node t)) (kids w t)) (pending_to is_inside b (kids w t) (view_in (out-Node t)) j a z i y) x

  none_of : (x y : Bool) → ◌≡◌ {A = Option Path} (cond (x && y) (Some []) None) None → (y ≡ false) ⊎ ((y ≡ true) × (x ≡ false))
  none_of true true e = absurd (cc)
  none_of true false e = inl refl
  none_of false true e = inr (refl, refl)
  none_of false false e = inl refl

  joined_forth : opened w t ≡ None → In b (joined (kids w t)).pending → Below w t b None
  joined_forth e h = let (j, a, z, i) = joined_from b (kids w t) h in kid_from j a None z i (ap (λ o. own o (view_in (out-Node t) j) b.0) e)

  joined_back : is_no_identifier (out-Node t) ≡ true → Below w t b None → In b (joined (kids w t)).pending
  joined_back n g = let (j, a, z, i, o) = kid_to None tt n g in joined_to b (kids w t) j a z i

  abbrev left : Scope → List Binding
  left s = filter (λ b. not (takes b.0 s)) (pending_where is_inside (view_in (out-Node t)) (kids w t))

  abbrev outside : List Binding
  outside = pending_where (λ v. not (is_inside v)) (view_in (out-Node t)) (kids w t)

  not_true : (x : Bool) → not x ≡ true → x ≡ false
  not_true true e = absurd (cc)
  not_true false e = refl

  and_false : (x : Bool) → (x && false) ≡ false
  and_false true = refl
  and_false false = refl

  left_forth : (s : Scope) → opened w t ≡ Some s → In b (outside ++ left s) → Below w t b None
  left_forth s e h = ⊎_elim
      (λ g.
      let (j, a, z, i, v) = pending_from (λ v. not (is_inside v)) b (kids w t) (view_in (out-Node t)) g in
      kid_from j a None z i (ap (λ o. own o (view_in (out-Node t) j) b.0) e ∙ ap (λ c. cond (takes b.0 s && c) (Some []) None) (not_true (is_inside (view_in (out-Node t) j)) v) ∙ ap (λ c. cond c (Some []) None) (and_false (takes b.0 s))))
      (λ g.
      let (k, n) = in_filter (λ b. not (takes b.0 s)) b (pending_where is_inside (view_in (out-Node t)) (kids w t)) g in
      let (j, a, z, i, v) = pending_from is_inside b (kids w t) (view_in (out-Node t)) k in
      kid_from j a None z i (ap (λ o. own o (view_in (out-Node t) j) b.0) e ∙ ap (λ c. cond (c && is_inside (view_in (out-Node t) j)) (Some []) None) (not_true (takes b.0 s) n)))
      (in_cases b outside (left s) h)

  left_back : (s : Scope) → opened w t ≡ Some s → is_no_identifier (out-Node t) ≡ true → Below w t b None → In b (outside ++ left s)
  left_back s e n g =
      let (j, a, z, i, o) = kid_to None tt n g in
      ⊎_elim
      (λ v. in_left b outside (left s) (pending_to (λ v. not (is_inside v)) b (kids w t) (view_in (out-Node t)) j a z i (ap not v)))
      (λ v. in_right b outside (left s) (filter_in (λ b. not (takes b.0 s)) b (pending_where is_inside (view_in (out-Node t)) (kids w t)) (pending_to is_inside b (kids w t) (view_in (out-Node t)) j a z i v.0) (ap not v.1)))
      (none_of (takes b.0 s) (is_inside (view_in (out-Node t) j)) (ap (λ o. own o (view_in (out-Node t) j) b.0) (sym e) ∙ o))

  scope_pends : (o : Option Scope) → opened w t ≡ o → is_no_identifier (out-Node t) ≡ true → In b (in_scope o (view_in (out-Node t)) (kids w t)).pending ↔ Below w t b None
  scope_pends None e n = (joined_forth e, joined_back n)
  scope_pends (Some s) e n = (left_forth s e, left_back s e n)

pub step_is : (w : Place) (t : Node) → S w t ≡ sites_in w (out-Node t) (opened w t) (view_in (out-Node t)) (kids w t)
step_is w t = fold_in_place_out sites_step w t

pub plain_is : (w : Place) (y : Node-F Node) (o : Option Scope) (views : ℕ → View) (cs : List Sites) → is_no_identifier y ≡ true → sites_in w y o views cs ≡ in_scope o views cs
plain_is w (Node-F.Identifier k i) o views cs n = absurd (cc)
plain_is w Node-F.Absent o views cs n = refl
plain_is w _ o views cs n = refl

named_forth : (w : Place) (t : Node) (k : Kind) (i : Ident) (b : Binding) → t ≡ Identifier k i → (z : Bool) → is_binding w.standing ≡ z → In b (cond z ((w.standing, i) ∷ []) []) → Below w t b None
named_forth w t k i b e true z (inl h) = record {
  path = [];
  place = w;
  kind = k;
  stands = ap (λ t. Some (w, t)) e ∙ ap (λ (b : Binding). Some (w, Identifier k b.1)) h;
  stands_so = ap (λ (b : Binding). b.0) h;
  binds = ap (λ (b : Binding). is_binding b.0) (sym h) ∙ z;
  taken = refl;
}
named_forth w t k i b e true z (inr h) = absurd h
named_forth w t k i b e false z h = absurd h

named_back : (w : Place) (t : Node) (k : Kind) (i : Ident) (b : Binding) → out-Node t ≡ Node-F.Identifier k i → Below w t b None → In b (cond (is_binding w.standing) ((w.standing, i) ∷ []) [])
named_back w t k i b o g = at g.path g.stands
  where
    at : (p : Path) → place_at w t p ≡ Some (g.place, Identifier g.kind b.1) → In b (cond (is_binding w.standing) ((w.standing, i) ∷ []) [])
    at [] h =
        let pair = some_same (w, t) (g.place, Identifier g.kind b.1) h in
        let r : w.standing ≡ b.0 = ap (λ (q : Place × Node). q.0.standing) pair ∙ g.stands_so in
        let y : Node-F.Identifier k i ≡ Node-F.Identifier g.kind b.1 = sym o ∙ ap (λ (q : Place × Node). out-Node q.1) pair ∙ outs-Identifier g.kind b.1 in
        let same : i ≡ b.1 = cc in
        let one : is_binding w.standing ≡ true = ap is_binding r ∙ g.binds in
        let both : (w.standing, i) ≡ b = λ j. (r j, same j) in
        subst (λ z. In b (cond z ((w.standing, i) ∷ []) [])) (sym one) (inl both)
    at (j ∷ p) h =
        let none : child t j ≡ None = ap (λ y. slice_get (children_in y) j) o in
        let y = sym h ∙ no_place_under w t j p none in
        absurd (cc)

other : (t : Node) → ((j : ℕ) (c : Node) → child t j ≡ Some c → Pends c) → (w : Place) (b : Binding) → is_no_identifier (out-Node t) ≡ true → In b (S w t).pending ↔ Below w t b None
other t below w b n =
    let is = step_is w t ∙ plain_is w (out-Node t) (opened w t) (view_in (out-Node t)) (kids w t) n in
    let (forth, back) = scope_pends w t below b (opened w t) refl n in
    (λ h. forth (subst (λ (s : Sites). In b s.pending) is h), λ g. subst (λ (s : Sites). In b s.pending) (sym is) (back g))

pends_in : (t : Node) → ((j : ℕ) (c : Node) → child t j ≡ Some c → Pends c) → (y : Node-F Node) → out-Node t ≡ y → Pends t
pends_in t below (Node-F.Identifier k i) o w b = (
  (λ h. named_forth w t k i b (identifier_is t k i o) (is_binding w.standing) refl (subst (λ (s : Sites). In b s.pending) (step_is w t ∙ ap (λ y. sites_in w y (opened w t) (view_in (out-Node t)) (kids w t)) o) h)),
  (λ g. subst (λ (s : Sites). In b s.pending) (sym (step_is w t ∙ ap (λ y. sites_in w y (opened w t) (view_in (out-Node t)) (kids w t)) o)) (named_back w t k i b o g)),
)
pends_in t below Node-F.Absent o w b = other t below w b (ap is_no_identifier o)
pends_in t below (Node-F.Flag x) o w b = other t below w b (ap is_no_identifier o)
pends_in t below (Node-F.Word x) o w b = other t below w b (ap is_no_identifier o)
pends_in t below (Node-F.Text x) o w b = other t below w b (ap is_no_identifier o)
pends_in t below (Node-F.Span x) o w b = other t below w b (ap is_no_identifier o)
pends_in t below (Node-F.List x) o w b = other t below w b (ap is_no_identifier o)
pends_in t below (Node-F.Tree k x) o w b = other t below w b (ap is_no_identifier o)

-- what is pending at a node stands below it and is taken by no scope in it
pub pends : (t : Node) → Pends t
pends = by_children Pends (λ t below. pends_in t below (out-Node t) refl)
