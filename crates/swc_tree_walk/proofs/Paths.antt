-- What a walk finds is what stands at some path.
use Rattle.std.proofs.Common.{◌≡◌, ℕ, zero, suc, ◌⊎◌, inl, inr, Option, Some, None, List, [], ◌∷◌, Contains, ◌↔◌, refl, sym, ap, ◌∙◌, subst, arith}
use Rattle.std.specs.List.{slice_get}
use Rattle.std.proofs.lemmas.List.Elements.{Contains-append_left, Contains-append_right, Contains-append_cases, Contains-push, Contains-push_cases}
use Rattle.swc_tree_marks.specs.declared.ident.Ident.{Ident}
use Rattle.swc_tree_node.specs.declared.kind.Kind.{Kind}
use Rattle.swc_tree_node.specs.declared.node.Node.{Node, Identifier, out-Node, roll-Node, roll-out-Node}
use Rattle.swc_tree_node.specs.declared.node.Node.TheOpen.{Node-F}
use Rattle.swc_tree_node.specs.declared.node.Node.TheVariants.{rolls-Identifier}
use Rattle.swc_tree_scoping.specs.declared.places.Place.{Place}
use Rattle.swc_tree_scoping.specs.declared.places.Standing.{Standing}
use Rattle.swc_tree_scoping.specs.Folds.{each_in}
use Rattle.swc_tree_scoping.specs.Places.{Path, child, children_in, given, place_at, place_below, program_place}
use Rattle.swc_tree_scoping.proofs.Under.{by_children, place_under}
use Rattle.swc_tree_walk.specs.Sites.{StandsIn, joined, own_sites, sites}
use Rattle.swc_tree_walk.proofs.Walked.{sites_identifier, sites_out}

none_in : {A : Type 0} (x : A) → Contains [] x → ⊥
none_in x h = let lt = h.1 in omega (arith, lt)

abbrev InOne : {A : Type 0} → (Place → Node → List A) → (ℕ → Place) → List Node → A → Type 0
InOne g places ts x = (j : ℕ) × (c : Node) × (slice_get ts j ≡ Some c) × Contains (g (places j) c) x

-- what is in some lists together is in one of them
split : {A : Type 0} (g : Place → Node → List A) (places : ℕ → Place) (ts : List Node) (x : A) → Contains (joined (each_in g places ts)) x → InOne g places ts x
split g places [] x h = absurd (none_in x h)
split g places (t ∷ ts) x h = by (λ later. split g (λ i. places (suc i)) ts x later) (Contains-append_cases (g (places zero) t) (joined (each_in g (λ i. places (suc i)) ts)) x h)
  where
    by : (Contains (joined (each_in g (λ i. places (suc i)) ts)) x → InOne g (λ i. places (suc i)) ts x) → Contains (g (places zero) t) x ⊎ Contains (joined (each_in g (λ i. places (suc i)) ts)) x → InOne g places (t ∷ ts) x
    by rest (inl here) = (zero, t, refl, here)
    by rest (inr later) = let r = rest later in (suc r.0, r.1, r.2, r.3)

merged : {A : Type 0} (g : Place → Node → List A) (places : ℕ → Place) (ts : List Node) (j : ℕ) (c : Node) (x : A) → slice_get ts j ≡ Some c → Contains (g (places j) c) x → Contains (joined (each_in g places ts)) x
merged g places [] j c x e h = absurd (cc)
merged g places (t ∷ ts) zero c x e h = let same : c ≡ t = cc in Contains-append_left (g (places zero) t) (joined (each_in g (λ i. places (suc i)) ts)) x (subst (λ c. Contains (g (places zero) c) x) same h)
merged g places (t ∷ ts) (suc j) c x e h = Contains-append_right (g (places zero) t) (joined (each_in g (λ i. places (suc i)) ts)) x (merged g (λ i. places (suc i)) ts j c x e h)

abbrev Found : Node → Type 0
Found t = (w : Place) (r : Standing) (i : Ident) → Contains (sites w t) (r, i) → StandsIn w t r i

abbrev SameSite : Standing × Ident → Standing × Ident → Type 0
SameSite a b = a ≡ b

own_found : (w : Place) (t : Node) (r : Standing) (i : Ident) (y : Node-F Node) → t ≡ roll-Node y → Contains (own_sites w y) (r, i) → StandsIn w t r i
own_found w t r i (Node-F.Identifier k j) e h = by (Contains-push_cases {X = Standing × Ident} [] (w.standing, j) (r, i) h)
  where
    by : Contains {X = Standing × Ident} [] (r, i) ⊎ SameSite (w.standing, j) (r, i) → StandsIn w t r i
    by (inl never) = absurd (none_in {A = Standing × Ident} (r, i) never)
    by (inr same) =
        let is : t ≡ Identifier k i = e ∙ rolls-Identifier k j ∙ ap (λ (s : Standing × Ident). Identifier k s.1) same in
        ([], w, k, ap (λ t. Some (w, t)) is, ap (λ (s : Standing × Ident). s.0) same)
own_found w t r i (Node-F.List ts) e h = absurd (none_in {A = Standing × Ident} (r, i) h)
own_found w t r i (Node-F.Tree k ts) e h = absurd (none_in {A = Standing × Ident} (r, i) h)
own_found w t r i Node-F.Absent e h = absurd (none_in {A = Standing × Ident} (r, i) h)
own_found w t r i (Node-F.Flag x) e h = absurd (none_in {A = Standing × Ident} (r, i) h)
own_found w t r i (Node-F.Word x) e h = absurd (none_in {A = Standing × Ident} (r, i) h)
own_found w t r i (Node-F.Text x) e h = absurd (none_in {A = Standing × Ident} (r, i) h)
own_found w t r i (Node-F.Span x) e h = absurd (none_in {A = Standing × Ident} (r, i) h)

found_stands : (t : Node) → Found t
found_stands = by_children Found step
  where
    step : (t : Node) → ((j : ℕ) (c : Node) → child t j ≡ Some c → Found c) → Found t
    step t below w r i h = by (Contains-append_cases (own_sites w (out-Node t)) (joined (each_in sites (place_below w t) (children_in (out-Node t)))) (r, i) (subst (λ l. Contains l (r, i)) (sites_out w t) h))
      where
        by : Contains (own_sites w (out-Node t)) (r, i) ⊎ Contains (joined (each_in sites (place_below w t) (children_in (out-Node t)))) (r, i) → StandsIn w t r i
        by (inl own) = own_found w t r i (out-Node t) (sym (roll-out-Node t)) own
        by (inr later) =
            let s = split sites (place_below w t) (children_in (out-Node t)) (r, i) later in
            let d = below s.0 s.1 s.2 (place_below w t s.0) r i s.3 in
            (s.0 ∷ d.0, d.1, d.2, place_under w t s.1 s.0 d.0 s.2 ∙ d.3, d.4)

abbrev SamePlace : Place × Node → Place × Node → Type 0
SamePlace a b = a ≡ b

some_same : {X : Type 0} {a b : X} → Some a ≡ Some b → a ≡ b
some_same h = cc

stands_found : (p : Path) (w : Place) (t : Node) (v : Place) (k : Kind) (i : Ident) → place_at w t p ≡ Some (v, Identifier k i) → Contains (sites w t) (v.standing, i)
stands_found [] w t v k i h =
    let same : SamePlace (w, t) (v, Identifier k i) = some_same h in
    let is : t ≡ Identifier k i = ap (λ (q : Place × Node). q.1) same in
    let stood : w ≡ v = ap (λ (q : Place × Node). q.0) same in
    subst (λ l. Contains l (v.standing, i)) (ap (λ (w : Place). (w.standing, i) ∷ []) (sym stood) ∙ sym (sites_identifier w t k i is)) (Contains-push [] (v.standing, i))
stands_found (j ∷ p) w t v k i h = by (λ c e. stands_found p (place_below w t j) c v k i e) (child t j) refl
  where
    by : ((c : Node) → place_at (place_below w t j) c p ≡ Some (v, Identifier k i) → Contains (sites (place_below w t j) c) (v.standing, i)) → (o : Option Node) → child t j ≡ o → Contains (sites w t) (v.standing, i)
    by rest None e = let none : given None None (λ c. place_at (place_below w t j) c p) ≡ Some (v, Identifier k i) = ap (λ o. given o None (λ c. place_at (place_below w t j) c p)) (sym e) ∙ h in absurd (cc)
    by rest (Some c) e =
        let lower = rest c (sym (place_under w t c j p e) ∙ h) in
        let among = merged sites (place_below w t) (children_in (out-Node t)) j c (v.standing, i) e lower in
        subst (λ l. Contains l (v.standing, i)) (sym (sites_out w t)) (Contains-append_right (own_sites w (out-Node t)) (joined (each_in sites (place_below w t) (children_in (out-Node t)))) (v.standing, i) among)

pub sites_stand : (t : Node) (l : List (Standing × Ident)) → l ≡ sites program_place t → (r : Standing) (i : Ident) → Contains l (r, i) ↔ StandsIn program_place t r i
sites_stand t l is r i = (
  λ h. found_stands t program_place r i (subst (λ l. Contains l (r, i)) is h),
  λ s. subst (λ l. Contains l (r, i)) (sym is) (subst (λ r. Contains (sites program_place t) (r, i)) s.4 (stands_found s.0 program_place t s.1 s.2 i s.3)),
)
