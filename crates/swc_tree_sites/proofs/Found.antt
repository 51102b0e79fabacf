-- The names of a node are those that stand below it, each with what the scopes round it take.
use Rattle.std.proofs.Common.{◌≡◌, ℕ, zero, suc, Bool, true, false, inl, inr, ⊎_elim, Option, Some, None, List, [], ◌∷◌, ◌++◌, map, refl, sym, ap, ◌∙◌, subst, cond, ◌↔◌}
use Rattle.std.specs.List.{slice_get}
use Rattle.std.proofs.lemmas.List.{append-nil}
use Rattle.swc_tree_marks.specs.declared.ident.Ident.{Ident}
use Rattle.swc_tree_node.specs.declared.kind.Kind.{Kind}
use Rattle.swc_tree_node.specs.declared.node.Node.{Node, Identifier, out-Node}
use Rattle.swc_tree_node.specs.declared.node.Node.TheOpen.{Node-F}
use Rattle.swc_tree_node.specs.declared.node.Node.TheVariants.{outs-Identifier}
use Rattle.swc_tree_scoping.specs.declared.places.Place.{Place}
use Rattle.swc_tree_scoping.specs.declared.places.Scope.{Scope}
use Rattle.swc_tree_scoping.specs.declared.places.View.{View}
use Rattle.swc_tree_scoping.specs.declared.places.View.TheVariants as view
use Rattle.swc_tree_scoping.specs.Places.{Path, child, children_in, given, place_at, place_below, opened}
use Rattle.swc_tree_scoping.specs.Scopes.{view_in, is_name}
use Rattle.swc_tree_scoping.proofs.Remarked.{identifier_is}
use Rattle.swc_tree_scoping.proofs.Under.{no_place_under, by_children, each_in-at, place_under}
use Rattle.swc_tree_sites.specs.Sites.{Binding, Entry, Site, Sites, in_scope, counted, joined, pushed, seen_in, sites_in, sites_seen}
use Rattle.swc_tree_sites.proofs.Loose.{S, each_in_from, in_cases, in_left, in_right, is_no_identifier, plain_is, some_same, step_is}
use Rattle.swc_tree_sites.specs.Smaller.{In}
use Rattle.swc_tree_sites.specs.Sites.{kids, taken_at, taken_in}

-- what the scopes round a path take, as they are seen from there
abbrev pub env_at : Place → Node → Path → List Entry
env_at w t [] = []
env_at w t (j ∷ p) = given (child t j) [] (λ c. env_at (place_below w t j) c p) ++ seen_in (taken_at w t) (view_in (out-Node t) j)

pub record SiteBelow (w : Place) (t : Node) (s : Site) : Type 0 where
  pub path : Path
  pub place : Place
  pub kind : Kind
  pub stands : place_at w t path ≡ Some (place, Identifier kind s.1)
  pub stands_so : counted place.standing ≡ s.0
  pub names : is_name place.standing ≡ true
  pub env : env_at w t path ≡ s.2

abbrev pub Finds : Node → Type 0
Finds t = (w : Place) (s : Site) → In s (S w t).sites ↔ SiteBelow w t s

-- in which child a name is found
pub in_map : {X Y : Type 0} (f : X → Y) (y : Y) (xs : List X) → In y (map f xs) → (x : X) × In x xs × (f x ≡ y)
in_map f y [] h = absurd h
in_map f y (x ∷ xs) (inl h) = (x, inl refl, h)
in_map f y (x ∷ xs) (inr h) = let (z, i, e) = in_map f y xs h in (z, inr i, e)

pub map_in : {X Y : Type 0} (f : X → Y) (x : X) (xs : List X) → In x xs → In (f x) (map f xs)
map_in f x [] h = absurd h
map_in f x (y ∷ ys) (inl h) = inl (ap f h)
map_in f x (y ∷ ys) (inr h) = inr (map_in f x ys h)

seen_from : (taken : List Binding) (s : Site) (cs : List Sites) (views : ℕ → View) → In s (sites_seen taken views cs) → (j : ℕ) × (c : Sites) × (u : Site) × (slice_get cs j ≡ Some c) × In u c.sites × (pushed (seen_in taken (views j)) u ≡ s)
seen_from taken s [] views h = absurd h
seen_from taken s (c ∷ cs) views h = ⊎_elim
    (λ g. let (u, i, e) = in_map (pushed (seen_in taken (views zero))) s c.sites g in (zero, c, u, refl, i, e))
    (λ g. let (j, d, u, e, i, f) = seen_from taken s cs (λ i. views (suc i)) g in (suc j, d, u, e, i, f))
    (in_cases s (map (pushed (seen_in taken (views zero))) c.sites) (sites_seen taken (λ i. views (suc i)) cs) h)

seen_to : (taken : List Binding) (u : Site) (cs : List Sites) (views : ℕ → View) (j : ℕ) (c : Sites) → slice_get cs j ≡ Some c → In u c.sites → In (pushed (seen_in taken (views j)) u) (sites_seen taken views cs)
seen_to taken u [] views j c h g = absurd (cc)
seen_to taken u (d ∷ cs) views zero c h g =
    let same : d ≡ c = cc in
    in_left (pushed (seen_in taken (views zero)) u) (map (pushed (seen_in taken (views zero))) d.sites) (sites_seen taken (λ i. views (suc i)) cs)
    (map_in (pushed (seen_in taken (views zero))) u d.sites (subst (λ (s : Sites). In u s.sites) (sym same) g))
seen_to taken u (d ∷ cs) views (suc j) c h g =
    in_right (pushed (seen_in taken (views (suc j))) u) (map (pushed (seen_in taken (views zero))) d.sites) (sites_seen taken (λ i. views (suc i)) cs) (seen_to taken u cs (λ i. views (suc i)) j c h g)

-- where no scope is opened nothing is pushed
unpushed : (cs : List Sites) (views : ℕ → View) → (joined cs).sites ≡ sites_seen [] views cs
unpushed [] views = refl
unpushed (c ∷ cs) views = ap (λ l. l ++ (joined cs).sites) (same c.sites) ∙ ap (λ l. map (pushed (seen_in [] (views zero))) c.sites ++ l) (unpushed cs (λ i. views (suc i)))
  where
    none : (v : View) → seen_in [] v ≡ []
    none view.Outside = refl
    none view.Parameters = refl
    none view.Whole = refl

    nil : (s : Site) → s ≡ pushed [] s
    nil s = λ i. (s.0, s.1, sym (append-nil s.2) i)

    each : (xs : List Site) → xs ≡ map (pushed []) xs
    each [] = refl
    each (x ∷ xs) = ap (λ y. y ∷ xs) (nil x) ∙ ap (λ l. pushed [] x ∷ l) (each xs)

    same : (xs : List Site) → xs ≡ map (pushed (seen_in [] (views zero))) xs
    same xs = each xs ∙ ap (λ e. map (pushed e) xs) (sym (none (views zero)))

sites_are : (w : Place) (t : Node) (o : Option Scope) → (in_scope o (view_in (out-Node t)) (kids w t)).sites ≡ sites_seen (taken_in w t o) (view_in (out-Node t)) (kids w t)
sites_are w t None = unpushed (kids w t) (view_in (out-Node t))
sites_are w t (Some s) = refl

pub env_under : (w : Place) (t c : Node) (j : ℕ) (p : Path) → child t j ≡ Some c → env_at w t (j ∷ p) ≡ env_at (place_below w t j) c p ++ seen_in (taken_at w t) (view_in (out-Node t) j)
env_under w t c j p h = ap (λ o. given o [] (λ c. env_at (place_below w t j) c p) ++ seen_in (taken_at w t) (view_in (out-Node t) j)) h

module _ (w : Place) (t : Node) (below : (j : ℕ) (c : Node) → child t j ≡ Some c → Finds c) (n : is_no_identifier (out-Node t) ≡ true) (s : Site) where
  found_forth : In s (sites_seen (taken_at w t) (view_in (out-Node t)) (kids w t)) → SiteBelow w t s
  found_forth h =
      let (j, a, u, z, i, e) = seen_from (taken_at w t) s (kids w t) (view_in (out-Node t)) h in
      let (c, y, is) = each_in_from (place_below w t) (children_in (out-Node t)) j a z in
      let g = (below j c y (place_below w t j) u).0 (subst (λ (s : Sites). In u s.sites) is i) in
      subst (SiteBelow w t) e (record {
        path = j ∷ g.path;
        place = g.place;
        kind = g.kind;
        stands = place_under w t c j g.path y ∙ g.stands;
        stands_so = g.stands_so;
        names = g.names;
        env = env_under w t c j g.path y ∙ ap (λ l. l ++ seen_in (taken_at w t) (view_in (out-Node t) j)) g.env;
      })

  found_back : SiteBelow w t s → In s (sites_seen (taken_at w t) (view_in (out-Node t)) (kids w t))
  found_back g = at g.path g.stands g.env
    where
      at : (p : Path) → place_at w t p ≡ Some (g.place, Identifier g.kind s.1) → env_at w t p ≡ s.2 → In s (sites_seen (taken_at w t) (view_in (out-Node t)) (kids w t))
      at [] h e =
          let is : t ≡ Identifier g.kind s.1 = ap (λ (q : Place × Node). q.1) (some_same (w, t) (g.place, Identifier g.kind s.1) h) in
          let z = sym n ∙ ap (λ t. is_no_identifier (out-Node t)) is ∙ ap is_no_identifier (outs-Identifier g.kind s.1) in
          absurd (cc)
      at (j ∷ p) h e = by (child t j) refl
        where
          by : (c : Option Node) → child t j ≡ c → In s (sites_seen (taken_at w t) (view_in (out-Node t)) (kids w t))
          by None z = let y = sym h ∙ no_place_under w t j p z in absurd (cc)
          by (Some c) z =
              let u : Site = (s.0, s.1, env_at (place_below w t j) c p) in
              let inner = (below j c z (place_below w t j) (s.0, s.1, env_at (place_below w t j) c p)).1
              (record { path = p; place = g.place; kind = g.kind; stands = sym (place_under w t c j p z) ∙ h; stands_so = g.stands_so; names = g.names; env = refl }) in
              let there = seen_to (taken_at w t) (s.0, s.1, env_at (place_below w t j) c p) (kids w t) (view_in (out-Node t)) j (S (place_below w t j) c) (each_in-at S (place_below w t) (children_in (out-Node t)) j c z) inner in
              let whole : env_at (place_below w t j) c p ++ seen_in (taken_at w t) (view_in (out-Node t) j) ≡ s.2 = sym (env_under w t c j p z) ∙ e in
              subst (λ l. In (s.0, s.1, l) (sites_seen (taken_at w t) (view_in (out-Node t)) (kids w t))) whole there

  other : In s (S w t).sites ↔ SiteBelow w t s
  other =
      let is : (S w t).sites ≡ sites_seen (taken_at w t) (view_in (out-Node t)) (kids w t)
      = ap (λ (a : Sites). a.sites) (step_is w t ∙ plain_is w (out-Node t) (opened w t) (view_in (out-Node t)) (kids w t) n) ∙ sites_are w t (opened w t) in
      (λ h. found_forth (subst (In s) is h), λ g. subst (In s) (sym is) (found_back g))

identifier_step : (w : Place) (t : Node) (k : Kind) (i : Ident) → out-Node t ≡ Node-F.Identifier k i → (S w t).sites ≡ cond (is_name w.standing) ((counted w.standing, i, []) ∷ []) []
identifier_step w t k i o = ap (λ (a : Sites). a.sites) (step_is w t ∙ ap (λ y. sites_in w y (opened w t) (view_in (out-Node t)) (kids w t)) o)

one_forth : (w : Place) (t : Node) (k : Kind) (i : Ident) (s : Site) → t ≡ Identifier k i → (z : Bool) → is_name w.standing ≡ z → In s (cond z ((counted w.standing, i, []) ∷ []) []) → SiteBelow w t s
one_forth w t k i s e true z (inl h) = record {
  path = [];
  place = w;
  kind = k;
  stands = ap (λ t. Some (w, t)) e ∙ ap (λ (s : Site). Some (w, Identifier k s.1)) h;
  stands_so = ap (λ (s : Site). s.0) h;
  names = z;
  env = ap (λ (s : Site). s.2) h;
}
one_forth w t k i s e true z (inr h) = absurd h
one_forth w t k i s e false z h = absurd h

one_back : (w : Place) (t : Node) (k : Kind) (i : Ident) (s : Site) → out-Node t ≡ Node-F.Identifier k i → SiteBelow w t s → In s (cond (is_name w.standing) ((counted w.standing, i, []) ∷ []) [])
one_back w t k i s o g = at g.path g.stands g.env
  where
    at : (p : Path) → place_at w t p ≡ Some (g.place, Identifier g.kind s.1) → env_at w t p ≡ s.2 → In s (cond (is_name w.standing) ((counted w.standing, i, []) ∷ []) [])
    at [] h e =
        let pair = some_same (w, t) (g.place, Identifier g.kind s.1) h in
        let stood : w.standing ≡ g.place.standing = ap (λ (q : Place × Node). q.0.standing) pair in
        let r : counted w.standing ≡ s.0 = ap counted stood ∙ g.stands_so in
        let y : Node-F.Identifier k i ≡ Node-F.Identifier g.kind s.1 = sym o ∙ ap (λ (q : Place × Node). out-Node q.1) pair ∙ outs-Identifier g.kind s.1 in
        let same : i ≡ s.1 = cc in
        let one : is_name w.standing ≡ true = ap is_name stood ∙ g.names in
        let both : (counted w.standing, i, []) ≡ s = λ j. (r j, same j, e j) in
        subst (λ z. In s (cond z ((counted w.standing, i, []) ∷ []) [])) (sym one) (inl both)
    at (j ∷ p) h e =
        let none : child t j ≡ None = ap (λ y. slice_get (children_in y) j) o in
        let y = sym h ∙ no_place_under w t j p none in
        absurd (cc)

finds_in : (t : Node) → ((j : ℕ) (c : Node) → child t j ≡ Some c → Finds c) → (y : Node-F Node) → out-Node t ≡ y → Finds t
finds_in t below (Node-F.Identifier k i) o w s = (
  (λ h. one_forth w t k i s (identifier_is t k i o) (is_name w.standing) refl (subst (In s) (identifier_step w t k i o) h)),
  (λ g. subst (In s) (sym (identifier_step w t k i o)) (one_back w t k i s o g)),
)
finds_in t below Node-F.Absent o w s = other w t below (ap is_no_identifier o) s
finds_in t below (Node-F.Flag x) o w s = other w t below (ap is_no_identifier o) s
finds_in t below (Node-F.Word x) o w s = other w t below (ap is_no_identifier o) s
finds_in t below (Node-F.Text x) o w s = other w t below (ap is_no_identifier o) s
finds_in t below (Node-F.Span x) o w s = other w t below (ap is_no_identifier o) s
finds_in t below (Node-F.List x) o w s = other w t below (ap is_no_identifier o) s
finds_in t below (Node-F.Tree k x) o w s = other w t below (ap is_no_identifier o) s

-- the names of a node are those that stand below it
pub finds : (t : Node) → Finds t
finds = by_children Finds (λ t below. finds_in t below (out-Node t) refl)
