-- What the scopes round a path take, by the paths of those scopes.
use Rattle.std.proofs.Common.{◌≡◌, ℕ, Bool, true, false, ◌&&◌, ◌⊎◌, inl, inr, Option, Some, None, List, [], ◌∷◌, ◌++◌, map, refl, sym, ap, ◌∙◌, subst, cond, ◌↔◌}
use Rattle.std.specs.List.{flat_map}
use Rattle.std.proofs.lemmas.List.{append-nil}
use Rattle.std.proofs.lemmas.List.Folds.{flat_map-map}
use Rattle.std.proofs.lemmas.Grind.{flat_map-append}
use Rattle.swc_tree_node.specs.declared.node.Node.{Node, Identifier, out-Node}
use Rattle.swc_tree_scoping.specs.declared.places.Standing.{Standing}
use Rattle.swc_tree_scoping.specs.declared.places.Place.{Place}
use Rattle.swc_tree_scoping.specs.declared.places.Scope.{Scope}
use Rattle.swc_tree_scoping.specs.declared.places.View.{View}
use Rattle.swc_tree_scoping.specs.declared.places.View.TheVariants as view
use Rattle.swc_tree_scoping.specs.Places.{Path, child, given, place_at, place_below, opened}
use Rattle.swc_tree_scoping.specs.Scopes.{Round, first_that, is_taken, rounds, seen_as, view_in}
use Rattle.swc_tree_scoping.proofs.Under.{lower, no_place_under, no_rounds_under, place_under, rounds_under}
use Rattle.swc_tree_sites.specs.Sites.{Binding, Entry, entry, seen_in}
use Rattle.swc_tree_node.specs.declared.node.Node.TheOpen.{Node-F}
use Rattle.swc_tree_sites.proofs.Loose.{Below, is_no_identifier, own, or_else, lowered, pends, taken_from, taken_to, taker_in, test, taker_under}
use Rattle.swc_tree_scoping.specs.Places.{opened_in, is_inside}
use Rattle.swc_tree_sites.proofs.Found.{env_at, env_under}
use Rattle.swc_tree_sites.specs.Smaller.{In}
use Rattle.swc_tree_sites.specs.Sites.{taken_at, taken_in}

-- what the scope at a path takes
abbrev pub taken_there : Option (Place × Node) → List Binding
taken_there None = []
taken_there (Some q) = taken_at q.0 q.1

abbrev pub taken_by : Place → Node → Path → List Binding
taken_by w t s = taken_there (place_at w t s)

abbrev pub entry_of : Place → Node → Round → List Entry
entry_of w t s = entry (taken_by w t s.0) s.1

seen_same : (w : Place) (t : Node) (o : Option Scope) (v : View) → opened w t ≡ o → flat_map (entry_of w t) (seen_as o v) ≡ seen_in (taken_in w t o) v
seen_same w t None view.Outside e = refl
seen_same w t None view.Parameters e = refl
seen_same w t None view.Whole e = refl
seen_same w t (Some s) view.Outside e = refl
seen_same w t (Some s) view.Parameters e = append-nil (entry (taken_at w t) false) ∙ ap (λ o. entry (taken_in w t o) false) e
seen_same w t (Some s) view.Whole e = append-nil (entry (taken_at w t) true) ∙ ap (λ o. entry (taken_in w t o) true) e

flat_alike : (f g : Round → List Entry) (ss : List Round) → ((s : Round) → f s ≡ g s) → flat_map f ss ≡ flat_map g ss
flat_alike f g [] h = refl
flat_alike f g (s ∷ ss) h = ap (λ l. l ++ flat_map f ss) (h s) ∙ ap (λ l. g s ++ l) (flat_alike f g ss h)

-- the entries at a path are those of the scopes round it
pub env_is : (p : Path) (w : Place) (t : Node) → env_at w t p ≡ flat_map (entry_of w t) (rounds w t p)
env_is [] w t = refl
env_is (j ∷ p) w t = at (child t j) refl (λ c. env_is p (place_below w t j) c)
  where
    at : (o : Option Node) → child t j ≡ o → ((c : Node) → env_at (place_below w t j) c p ≡ flat_map (entry_of (place_below w t j) c) (rounds (place_below w t j) c p))
        → env_at w t (j ∷ p) ≡ flat_map (entry_of w t) (rounds w t (j ∷ p))
    at None h below =
        ap (λ o. given o [] (λ c. env_at (place_below w t j) c p) ++ seen_in (taken_at w t) (view_in (out-Node t) j)) h
        ∙ sym (seen_same w t (opened w t) (view_in (out-Node t) j) refl) ∙ ap (flat_map (entry_of w t)) (sym (no_rounds_under w t j p h))
    at (Some c) h below =
        env_under w t c j p h ∙ ap (λ l. l ++ seen_in (taken_at w t) (view_in (out-Node t) j)) (below c)
        ∙ ap (λ l. l ++ seen_in (taken_at w t) (view_in (out-Node t) j))
        (flat_alike (entry_of (place_below w t j) c) (λ s. entry_of w t (lower j s)) (rounds (place_below w t j) c p) (λ s. ap (λ o. entry (taken_there o) s.1) (sym (place_under w t c j s.0 h)))
        ∙ sym (flat_map-map (entry_of w t) (lower j) (rounds (place_below w t j) c p)))
        ∙ ap (λ l. flat_map (entry_of w t) (map (lower j) (rounds (place_below w t j) c p)) ++ l) (sym (seen_same w t (opened w t) (view_in (out-Node t) j) refl))
        ∙ sym (flat_map-append (entry_of w t) (map (lower j) (rounds (place_below w t j) c p)) (seen_as (opened w t) (view_in (out-Node t) j)))
        ∙ ap (flat_map (entry_of w t)) (sym (rounds_under w t c j p h))

-- a node that opens a scope is no identifier
opener : (w : Place) (t : Node) (s : Scope) (y : Node-F Node) → out-Node t ≡ y → opened w t ≡ Some s → is_no_identifier y ≡ true
opener w t s (Node-F.Identifier k i) o e = let z : Some s ≡ None = sym e ∙ ap (opened_in w) o in absurd (cc)
opener w t s Node-F.Absent o e = refl
opener w t s _ o e = refl

-- what is taken at the root
own_none : (w : Place) (t : Node) (r : Standing) (j : ℕ) (p : Path) → opened w t ≡ None → taker_in w t r (j ∷ p) ≡ Some [] → ⊥
own_none w t r j p e h = at (child t j) refl
  where
    impossible : (x : Option Path) → or_else (lowered j x) None ≡ Some [] → ⊥
    impossible None g = absurd (cc)
    impossible (Some q) g = absurd (cc)

    at : (o : Option Node) → child t j ≡ o → ⊥
    at None z =
        let none : taker_in w t r (j ∷ p) ≡ None = ap (first_that (test w t r)) (no_rounds_under w t j p z ∙ ap (λ o. seen_as o (view_in (out-Node t) j)) e) in
        let y : Some [] ≡ None = sym h ∙ none in absurd (cc)
    at (Some c) z = impossible (taker_in (place_below w t j) c r p) (ap (λ o. or_else (lowered j (taker_in (place_below w t j) c r p)) (own o (view_in (out-Node t) j) r)) (sym e) ∙ sym (taker_under w t c r j p z) ∙ h)

here : (w : Place) (t : Node) (b : Binding) (o : Option Scope) → opened w t ≡ o → In b (taken_in w t o) ↔ Below w t b (Some [])
here w t b None e = ((λ h. absurd h), (λ g. never g.path g.taken))
  where
    never : (p : Path) → taker_in w t b.0 p ≡ Some [] → ⊥
    never [] h = absurd (cc)
    never (j ∷ p) h = own_none w t b.0 j p e h
here w t b (Some s) e = (
  taken_from w t (λ j c h. pends c) b s e,
  taken_to w t (λ j c h. pends c) b s e (opener w t s (out-Node t) refl e),
)

-- by the first step of the scope's path
abbrev Lower : Place → Node → Binding → ℕ → Path → Type 0
Lower w t b j s = (c : Node) × (child t j ≡ Some c) × Below (place_below w t j) c b (Some s)

deeper : (w : Place) (t : Node) (b : Binding) (j : ℕ) (s : Path) → Below w t b (Some (j ∷ s)) → Lower w t b j s
deeper w t b j s g = at g.path g.stands g.taken
  where
    own_cases : (r : Standing) (o : Option Scope) (v : View) → (own o v r ≡ None) ⊎ (own o v r ≡ Some [])
    own_cases r o v = next (is_taken r o && is_inside v)
      where
        next : (b : Bool) → (◌≡◌ {A = Option Path} (cond b (Some []) None) None) ⊎ (◌≡◌ {A = Option Path} (cond b (Some []) None) (Some []))
        next true = inr refl
        next false = inl refl

    step : (k : ℕ) (x y : Option Path) → (y ≡ None) ⊎ (y ≡ Some []) → or_else (lowered k x) y ≡ Some (j ∷ s) → (k ≡ j) × (x ≡ Some s)
    step k None y (inl z) e = absurd (cc)
    step k None y (inr z) e = absurd (cc)
    step k (Some q) y z e = let first : k ≡ j = cc in let rest : q ≡ s = cc in (first, ap (λ q. Some q) rest)

    at : (p : Path) → place_at w t p ≡ Some (g.place, Identifier g.kind b.1) → taker_in w t b.0 p ≡ Some (j ∷ s) → Lower w t b j s
    at [] h e = absurd (cc)
    at (k ∷ p) h e = by (child t k) refl
      where
        by : (c : Option Node) → child t k ≡ c → Lower w t b j s
        by None z = let y = sym h ∙ no_place_under w t k p z in absurd (cc)
        by (Some c) z =
            let (first, inner) = step k (taker_in (place_below w t k) c b.0 p) (own (opened w t) (view_in (out-Node t) k) b.0) (own_cases b.0 (opened w t) (view_in (out-Node t) k)) (sym (taker_under w t c b.0 k p z) ∙ e) in
            subst (λ k. Lower w t b k s) first
            (c, z, record { path = p; place = g.place; kind = g.kind; stands = sym (place_under w t c k p z) ∙ h; stands_so = g.stands_so; binds = g.binds; taken = inner })

higher : (w : Place) (t c : Node) (b : Binding) (j : ℕ) (s : Path) → child t j ≡ Some c → Below (place_below w t j) c b (Some s) → Below w t b (Some (j ∷ s))
higher w t c b j s h g = record {
  path = j ∷ g.path;
  place = g.place;
  kind = g.kind;
  stands = place_under w t c j g.path h ∙ g.stands;
  stands_so = g.stands_so;
  binds = g.binds;
  taken = taker_under w t c b.0 j g.path h ∙ ap (λ x. or_else (lowered j x) (own (opened w t) (view_in (out-Node t) j) b.0)) g.taken;
}

-- what the scope at a path takes are the bindings whose nearest taker it is
pub taken_is : (s : Path) (w : Place) (t : Node) (b : Binding) → In b (taken_by w t s) ↔ Below w t b (Some s)
taken_is [] w t b = here w t b (opened w t) refl
taken_is (j ∷ s) w t b = at (child t j) refl (λ c. taken_is s (place_below w t j) c b)
  where
    at : (o : Option Node) → child t j ≡ o → ((c : Node) → In b (taken_by (place_below w t j) c s) ↔ Below (place_below w t j) c b (Some s)) → In b (taken_by w t (j ∷ s)) ↔ Below w t b (Some (j ∷ s))
    at None h below = (
      (λ i. absurd (subst (λ o. In b (taken_there o)) (no_place_under w t j s h) i)),
      (λ g. let (c, z, inner) = deeper w t b j s g in let y : Some c ≡ None = sym z ∙ h in absurd (cc)),
    )
    at (Some c) h below = (
      (λ i. higher w t c b j s h ((below c).0 (subst (λ o. In b (taken_there o)) (place_under w t c j s h) i))),
      (λ g.
          let (d, z, inner) = deeper w t b j s g in
          let same : d ≡ c = one d c (sym z ∙ h) in
          subst (λ o. In b (taken_there o)) (sym (place_under w t c j s h)) ((below c).1 (subst (λ c. Below (place_below w t j) c b (Some s)) same inner))),
    )
      where
        one : (x y : Node) → Some x ≡ Some y → x ≡ y
        one x y e = cc
