-- What the first walks add to the tables, by paths.
use Rattle.std.proofs.Common.{◌≡◌, ℕ, zero, suc, ◌+◌, ◌<◌, Bool, true, false, ◌||◌, ◌==◌, IsTrue, ◌⊎◌, ◌↔◌, inl, inr, ⊎_elim, Option, Some, None, List, [], ◌∷◌, ◌++◌, map, take, length, refl, sym, ap, ◌∙◌, subst, arith, cond}
use Rattle.std.specs.List.{slice_get, slice_set}
use Rattle.std.specs.Option.{is_some}
use Rattle.std.specs.Str.{bytes_eq}
use Rattle.std.proofs.lemmas.Slice.Eq.{bytes_eq-Decides}
use Rattle.std.proofs.lemmas.Bool.{cases_lt}
use Rattle.std.proofs.lemmas.Bool.Decides.{nat_tests}
use Rattle.swc_tree_marks.specs.declared.ident.Ident.{Ident}
use Rattle.swc_tree_node.specs.declared.kind.Kind.{Kind}
use Rattle.swc_tree_node.specs.declared.kind.Kind.TheVariants as kind
use Rattle.swc_tree_node.specs.declared.node.Node.{Node, Identifier, List as Many, Tree, out-Node}
use Rattle.swc_tree_node.specs.declared.node.Node.TheOpen.{Node-F}
use Rattle.swc_tree_node.specs.Parts.{may_hold_names, may_hold_names_in}
use Rattle.swc_tree_node.specs.declared.node.Node.TheVariants.{outs-Identifier, outs-List, outs-Tree}
use Rattle.swc_tree_scoping.specs.declared.places.Standing.{Standing}
use Rattle.swc_tree_scoping.specs.declared.places.Standing.TheVariants as standing
use Rattle.swc_tree_scoping.specs.declared.places.Place.{Place}
use Rattle.swc_tree_scoping.specs.declared.places.Scope.{Scope}
use Rattle.swc_tree_scoping.specs.declared.places.Scope.TheVariants as scope
use Rattle.swc_tree_scoping.specs.declared.places.View.{View}
use Rattle.swc_tree_scoping.specs.declared.places.View.TheVariants as view
use Rattle.swc_tree_scoping.specs.Places.{Path, child, children_in, given, opened, opened_in, place_at, place_below}
use Rattle.swc_tree_scoping.specs.Folds.{each_in}
use Rattle.swc_tree_spaces.specs.Spaces.{member_name, names_type}
use Rattle.swc_tree_scoping.specs.Scopes.{is_binding, is_taken, one_if, scope_count, seen_as, total, view_in}
use Rattle.swc_tree_scoping.specs.declared.below.PlacesBelow.{PlacesBelow}
use Rattle.swc_tree_scoping.specs.declared.below.PlacesBelow.TheVariants as below
use Rattle.swc_tree_scoping.specs.Below.{fields_are, places_of, scope_of_fields, view_of}
use Rattle.swc_tree_scoping.proofs.Remarked.{identifier_is, list_is, tree_is}
use Rattle.swc_tree_scoping.proofs.Under.{no_place_under, place_under}
use Rattle.swc_tree_scoping.proofs.Children.{fields_below, fields_opened, items_below}
use Rattle.swc_base_resolver_program.specs.declared.names.ScopeNames.{ScopeNames}
use Rattle.swc_base_resolver_program.specs.declared.collect.Stage.{Stage}
use Rattle.swc_base_resolver_program.specs.declared.collect.Stage.TheVariants as stage
use Rattle.swc_base_resolver_program.specs.declared.names.Ways.{Ways}
use Rattle.swc_base_resolver_program.specs.Names.{Way, both_ways, member_ways, takes_way, ways_by, ways_if, ways_of}
use Rattle.swc_base_resolver_program.specs.Inserted.{IsInserted}
use Rattle.swc_base_resolver_program.specs.Lookup.{Open, taker_in}
use Rattle.swc_base_resolver_program.specs.Walks.{Gains, HasMembers, IsAdded, IsMember, Reaches, ReachesBelow, ReachesHere, TakeAlike, Takes, TakesIdentifier, before, entered, has_at, inside, is_sought, members_sought, number, open_at, open_round, pick, target_in}
use Rattle.swc_base_resolver_program.proofs.Counted.{count_out}
use Rattle.swc_base_resolver_program.proofs.Ways.{both_takes, by_takes, is_true, member_takes, no_takes, or_cases, or_left, or_right}

abbrev pub Gained : Type 1
Gained = ℕ → Way → List ℕ → Type 0

-- gains, one after another
pub gains_none : (old : List ScopeNames) (P : Gained) → ((k : ℕ) (v : Way) (x : List ℕ) → P k v x → ⊥) → Gains old old P
gains_none old P none = λ k v x. (λ h. inl h, λ h. ⊎_elim (λ a. a) (λ p. absurd (none k v x p)) h)

pub gains_both : (a b c : List ScopeNames) (P Q R : Gained) → Gains a b P → Gains b c Q → ((k : ℕ) (v : Way) (x : List ℕ) → R k v x ↔ (P k v x ⊎ Q k v x)) → Gains a c R
gains_both a b c P Q R g h e = λ k v x.
    let first = g k v x in
    let second = h k v x in (
      λ z. ⊎_elim (λ y. ⊎_elim inl (λ p. inr ((e k v x).1 (inl p))) (first.0 y)) (λ q. inr ((e k v x).1 (inr q))) (second.0 z),
      λ z. ⊎_elim (λ y. second.1 (inl (first.1 (inl y)))) (λ y. ⊎_elim (λ p. second.1 (inl (first.1 (inr p)))) (λ q. second.1 (inr q)) ((e k v x).0 y)) z,
    )

pub gains_alike : (a b : List ScopeNames) (P Q : Gained) → Gains a b P → ((k : ℕ) (v : Way) (x : List ℕ) → Q k v x ↔ P k v x) → Gains a b Q
gains_alike a b P Q g e = λ k v x.
    let first = g k v x in
    (λ z. ⊎_elim inl (λ p. inr ((e k v x).1 p)) (first.0 z), λ z. ⊎_elim (λ y. first.1 (inl y)) (λ q. first.1 (inr ((e k v x).0 q))) z)

-- after tables that took the same
pub gains_after : (a b c : List ScopeNames) (P : Gained) → TakeAlike a b → Gains b c P → Gains a c P
gains_after a b c P same g = λ k v x.
    let is : has_at b k v x ≡ has_at a k v x = ap (λ w. takes_way w v) (same k x) in
    let (forth, back) = g k v x in
    (λ z. ⊎_elim (λ y. inl (subst IsTrue is y)) inr (forth z), λ z. back (⊎_elim (λ y. inl (subst IsTrue (sym is) y)) inr z))

-- what was gained by no table
pub gained_alone : (old new : List ScopeNames) (P : Gained) → old ≡ [] → Gains old new P → Takes new P
gained_alone old new P none g = λ k v x.
    let (forth, back) = g k v x in
    let gone : has_at old k v x ≡ false = ap (λ ss. has_at ss k v x) none ∙ no_takes v in
    (λ h. ⊎_elim (λ a. let z : false ≡ true = sym gone ∙ is_true _ a in absurd (cc)) (λ p. p) (forth h), λ p. back (inr p))

-- one name more in one table
set_here : (xs : List ScopeNames) (n : ℕ) (s y : ScopeNames) → slice_get xs n ≡ Some s → slice_get (slice_set xs n y) n ≡ Some y
set_here [] n s y h = absurd (cc)
set_here (x ∷ xs) zero s y h = refl
set_here (x ∷ xs) (suc n) s y h = set_here xs n s y h

set_there : (xs : List ScopeNames) (n k : ℕ) (y : ScopeNames) → (k ≡ n → ⊥) → slice_get (slice_set xs n y) k ≡ slice_get xs k
set_there [] n k y ne = refl
set_there (x ∷ xs) zero zero y ne = absurd (ne refl)
set_there (x ∷ xs) zero (suc k) y ne = refl
set_there (x ∷ xs) (suc n) zero y ne = refl
set_there (x ∷ xs) (suc n) (suc k) y ne = set_there xs n k y (λ e. ne (ap suc e))

same_or_not : (k n : ℕ) → (k ≡ n) ⊎ (k ≡ n → ⊥)
same_or_not zero zero = inl refl
same_or_not zero (suc n) = inr (λ e. omega (arith, e))
same_or_not (suc k) zero = inr (λ e. omega (arith, e))
same_or_not (suc k) (suc n) = ⊎_elim (λ e. inl (ap suc e)) (λ ne. inr (λ e. ne (omega (arith, e)))) (same_or_not k n)

module _ (s y : ScopeNames) (name : List ℕ) (more : Ways) (ins : IsInserted s y name more) where
  inserted_here : (v : Way) (x : List ℕ) (b : Bool) → bytes_eq name x ≡ b → IsTrue (takes_way (ways_of y x) v) ↔ (IsTrue (takes_way (ways_of s x) v) ⊎ (IsTrue (takes_way more v) × (name ≡ x)))
  inserted_here v x true e =
      let same : name ≡ x = (bytes_eq-Decides name x).0 (rw e refl) in
      let is : takes_way (ways_of y x) v ≡ (takes_way (ways_of s x) v || takes_way more v)
      = ap (λ w. takes_way w v) (ins x ∙ ap (λ b. cond b (both_ways (ways_of s name) more) (ways_of s x)) e ∙ ap (λ x. both_ways (ways_of s x) more) same) ∙ both_takes (ways_of s x) more v in (
        λ h. ⊎_elim inl (λ a. inr (a, same)) (or_cases (takes_way (ways_of s x) v) (takes_way more v) (subst IsTrue is h)),
        λ h. subst IsTrue (sym is) (⊎_elim (λ a. or_left (takes_way (ways_of s x) v) _ a) (λ a. or_right (takes_way (ways_of s x) v) _ a.0) h),
      )
  inserted_here v x false e =
      let is : takes_way (ways_of y x) v ≡ takes_way (ways_of s x) v = ap (λ w. takes_way w v) (ins x ∙ ap (λ b. cond b (both_ways (ways_of s name) more) (ways_of s x)) e) in
      let no : name ≡ x → ⊥ = λ a. let t = (bytes_eq-Decides name x).1 a in let f : false ≡ true = sym e ∙ t in absurd (cc) in (
        λ h. inl (subst IsTrue is h),
        λ h. ⊎_elim (λ a. subst IsTrue (sym is) a) (λ a. absurd (no a.1)) h,
      )

pub added : (old new : List ScopeNames) (number : ℕ) (s y : ScopeNames) (name : List ℕ) (more : Ways) → slice_get old number ≡ Some s → new ≡ slice_set old number y → IsInserted s y name more → Gains old new (IsAdded number more name)
added old new number s y name more here is ins = λ k v x. ⊎_elim (same k v x) (other k v x) (same_or_not k number)
  where
    same : (k : ℕ) (v : Way) (x : List ℕ) → k ≡ number → IsTrue (has_at new k v x) ↔ (IsTrue (has_at old k v x) ⊎ IsAdded number more name k v x)
    same k v x e =
        let before_is : has_at old k v x ≡ takes_way (ways_of s x) v = ap (λ k. has_at old k v x) e ∙ ap (λ o. takes_way (ways_if o x) v) here in
        let after_is : has_at new k v x ≡ takes_way (ways_of y x) v = ap (λ k. has_at new k v x) e ∙ ap (λ l. has_at l number v x) is ∙ ap (λ o. takes_way (ways_if o x) v) (set_here old number s y here) in
        let (forth, back) = inserted_here s y name more ins v x (bytes_eq name x) refl in (
          λ h. ⊎_elim (λ a. inl (subst IsTrue (sym before_is) a)) (λ a. inr (e, a.0, a.1)) (forth (subst IsTrue after_is h)),
          λ h. subst IsTrue (sym after_is) (back (⊎_elim (λ a. inl (subst IsTrue before_is a)) (λ a. inr (a.1, a.2)) h)),
        )

    other : (k : ℕ) (v : Way) (x : List ℕ) → (k ≡ number → ⊥) → IsTrue (has_at new k v x) ↔ (IsTrue (has_at old k v x) ⊎ IsAdded number more name k v x)
    other k v x ne =
        let alike : has_at new k v x ≡ has_at old k v x = ap (λ l. has_at l k v x) is ∙ ap (λ o. takes_way (ways_if o x) v) (set_there old number k y ne) in
        (λ h. inl (subst IsTrue alike h), λ h. ⊎_elim (λ a. subst IsTrue (sym alike) a) (λ a. absurd (ne a.0)) h)

-- a node that is no identifier
abbrev pub is_ident : {X : Type 0} → Node-F X → Bool
is_ident (Node-F.Identifier k i) = true
is_ident _ = false

some_pair : (a b : Place × Node) → Some a ≡ Some b → a ≡ b
some_pair a b e = cc

within : (ts : List Node) (i : ℕ) (c : Node) → slice_get ts i ≡ Some c → i < length ts
within [] i c h = absurd (cc)
within (t ∷ ts) zero c h = omega arith
within (t ∷ ts) (suc i) c h = let r = within ts i c h in omega (arith, r)

module _ (s : Stage) (env : List Open) (n : ℕ) (w : Place) (t : Node) where
  abbrev pub Below : Gained
  Below = ReachesBelow s (entered env n w t) (n + one_if (is_some (opened w t))) (place_below w t) (children_in (out-Node t)) (length (children_in (out-Node t)))

  shifted : (i : ℕ) → n + before w t i ≡ n + one_if (is_some (opened w t)) + total (each_in scope_count (place_below w t) (take i (children_in (out-Node t))))
  shifted i = omega arith

  round_under : (c : Node) (i : ℕ) (p : Path) → child t i ≡ Some c
      → open_round env n w t (i ∷ p) ≡ open_round (entered env n w t i) (n + one_if (is_some (opened w t)) + total (each_in scope_count (place_below w t) (take i (children_in (out-Node t))))) (place_below w t i) c p
  round_under c i p h =
      ap (λ o. given o (entered env n w t i) (λ c. open_round (entered env n w t i) (n + before w t i) (place_below w t i) c p)) h
      ∙ ap (λ m. open_round (entered env n w t i) m (place_below w t i) c p) (shifted i)

  number_under : (c : Node) (i : ℕ) (p : Path) → child t i ≡ Some c
      → n + number w t (i ∷ p) ≡ n + one_if (is_some (opened w t)) + total (each_in scope_count (place_below w t) (take i (children_in (out-Node t)))) + number (place_below w t i) c p
  number_under c i p h =
      let down : number w t (i ∷ p) ≡ before w t i + number (place_below w t i) c p = ap (λ o. before w t i + given o 0 (λ c. number (place_below w t i) c p)) h in
      let shift = shifted i in
      omega (arith, down, shift)

  abbrev pub Here : Gained
  Here = ReachesHere s env n w (out-Node t)

  module _ (k : ℕ) (v : Way) (x : List ℕ) where
    at_root : (m : ℕ) (q : Place × Node) → m ≡ n → Some (w, t) ≡ Some q → ReachesHere s env m q.0 (out-Node q.1) k v x → Here k v x
    at_root m q e f h = subst (λ (q : Place × Node). ReachesHere s env n q.0 (out-Node q.1) k v x) (sym (some_pair (w, t) q f)) (subst (λ m. ReachesHere s env m q.0 (out-Node q.1) k v x) e h)

    from_root : (m : ℕ) → m ≡ n → Here k v x → ReachesHere s env m w (out-Node t) k v x
    from_root m e h = subst (λ m. ReachesHere s env m w (out-Node t) k v x) (sym e) h

    forth : (p : Path) (u : Place) (d : Node) → place_at w t p ≡ Some (u, d) → ReachesHere s (open_round env n w t p) (n + number w t p) u (out-Node d) k v x → Here k v x ⊎ Below k v x
    forth [] u d place h = inl (at_root (n + 0) (u, d) (omega arith) place h)
    forth (j ∷ p) u d place h = at (child t j) refl
      where
        at : (o : Option Node) → child t j ≡ o → Here k v x ⊎ Below k v x
        at None g = let q = sym (no_place_under w t j p g) ∙ place in absurd (cc)
        at (Some c) g = inr (
          j,
          c,
          within (children_in (out-Node t)) j c g,
          g,
          record {
            path = p;
            place = u;
            node = d;
            stands = sym (place_under w t c j p g) ∙ place;
            reaches = subst (λ env. ReachesHere s env (n + one_if (is_some (opened w t)) + total (each_in scope_count (place_below w t) (take j (children_in (out-Node t)))) + number (place_below w t j) c p) u (out-Node d) k v x) (round_under c j p g)
                (subst (λ m. ReachesHere s (open_round env n w t (j ∷ p)) m u (out-Node d) k v x) (number_under c j p g) h);
          },
        )

    back : Here k v x ⊎ Below k v x → Reaches s env n w t k v x
    back (inl h) = record { path = []; place = w; node = t; stands = refl; reaches = from_root (n + 0) (omega arith) h }
    back (inr (j, c, l, g, b)) = record {
      path = j ∷ b.path;
      place = b.place;
      node = b.node;
      stands = place_under w t c j b.path g ∙ b.stands;
      reaches = subst (λ m. ReachesHere s (open_round env n w t (j ∷ b.path)) m b.place (out-Node b.node) k v x) (sym (number_under c j b.path g))
          (subst (λ env. ReachesHere s env (n + one_if (is_some (opened w t)) + total (each_in scope_count (place_below w t) (take j (children_in (out-Node t)))) + number (place_below w t j) c b.path) b.place (out-Node b.node) k v x) (sym (round_under c j b.path g)) b.reaches);
    }

    -- what a node gives is what it gives itself and what its children do
    pub by_parts : Reaches s env n w t k v x ↔ (Here k v x ⊎ Below k v x)
    by_parts = (λ h. forth h.path h.place h.node h.stands h.reaches, back)

  -- an identifier
  pub by_itself : (kd : Kind) (i : Ident) → t ≡ Identifier kd i → (k : ℕ) (v : Way) (x : List ℕ) → Reaches s env n w t k v x ↔ TakesIdentifier s env w.standing kd i k v x
  by_itself kd i is k v x =
      let layer : out-Node t ≡ Node-F.Identifier kd i = ap out-Node is ∙ outs-Identifier kd i in (
        λ h. ⊎_elim (λ a. subst (λ y. ReachesHere s env n w y k v x) layer a)
            (λ (j, c, l, g, b). let gone : slice_get (children_in (out-Node t)) j ≡ None = ap (λ y. slice_get (children_in y) j) layer in let q = sym gone ∙ g in absurd (cc)) ((by_parts k v x).0 h),
        λ h. (by_parts k v x).1 (inl (subst (λ y. ReachesHere s env n w y k v x) (sym layer) h)),
      )

-- the members that a node has
abbrev pub members_here : Stage → Node-F Node → List Node
members_here s (Node-F.Tree q ts) = members_sought s q ts
members_here s _ = []

-- what opens no scope has none
closed_memberless : (s : Stage) (w : Place) (y : Node-F Node) → opened_in w y ≡ None → members_here s y ≡ []
closed_memberless s w (Node-F.Tree q ts) e = of_kind s q e
  where
    of_kind : (s : Stage) (q : Kind) → opened_in w (Node-F.Tree q ts) ≡ None → members_sought s q ts ≡ []
    of_kind stage.Bind kind.TsEnumDecl e = absurd (cc)
    of_kind stage.Bind _ e = refl
    of_kind (stage.Settle b) _ e = refl
closed_memberless s w _ e = refl

-- what a node gives itself that is no identifier
by_members : (s : Stage) (env : List Open) (n : ℕ) (w : Place) (y : Node-F Node) → is_ident y ≡ false → (k : ℕ) (v : Way) (x : List ℕ)
    → ReachesHere s env n w y k v x ↔ HasMembers n (members_here s y) (length (members_here s y)) k v x
by_members s env n w (Node-F.Tree q ts) e k v x = (λ h. h, λ h. h)
by_members s env n w (Node-F.Identifier q i) e k v x = absurd (cc)
by_members s env n w _ e k v x = (λ h. absurd h, λ (o, f, (i, c, l, g, h)). absurd (omega (arith, l)))

-- one child more
module _ (s : Stage) (envs : ℕ → List Open) (n : ℕ) (places : ℕ → Place) (ts : List Node) where
  pub none_below : (k : ℕ) (v : Way) (x : List ℕ) → ReachesBelow s envs n places ts 0 k v x → ⊥
  none_below k v x (i, c, l, h, b) = omega (arith, l)

  pub one_below : (m : ℕ) (c : Node) → slice_get ts m ≡ Some c → (k : ℕ) (v : Way) (x : List ℕ)
      → ReachesBelow s envs n places ts (m + 1) k v x ↔ (ReachesBelow s envs n places ts m k v x ⊎ Reaches s (envs m) (n + total (each_in scope_count places (take m ts))) (places m) c k v x)
  one_below m c here k v x = (
    λ (i, d, l, h, b). ⊎_elim (λ e. inr (last i d h b e)) (λ ne. inl (i, d, omega (arith, l, less i l ne), h, b)) (same_or_not i m),
    λ h. ⊎_elim (λ (i, d, l, g, b). (i, d, omega (arith, l), g, b)) (λ b. (m, c, omega arith, here, b)) h,
  )
    where
      less : (i : ℕ) → i < m + 1 → (i ≡ m → ⊥) → i < m
      less i l ne = ⊎_elim (λ a. a) (λ a. absurd (ne (omega (arith, a, l)))) (cases_lt i m)

      last : (i : ℕ) (d : Node) → slice_get ts i ≡ Some d → Reaches s (envs i) (n + total (each_in scope_count places (take i ts))) (places i) d k v x → i ≡ m
          → Reaches s (envs m) (n + total (each_in scope_count places (take m ts))) (places m) c k v x
      last i d h b e =
          let opt : Some d ≡ Some c = sym h ∙ ap (slice_get ts) e ∙ here in
          let same : d ≡ c = cc in
          subst (λ c. Reaches s (envs m) (n + total (each_in scope_count places (take m ts))) (places m) c k v x) same
          (subst (λ i. Reaches s (envs i) (n + total (each_in scope_count places (take i ts))) (places i) d k v x) e b)

  pub child_gains : (m : ℕ) (c : Node) → slice_get ts m ≡ Some c → (old mid new : List ScopeNames) → Gains old mid (ReachesBelow s envs n places ts m)
      → (env : List Open) (at : ℕ) (w : Place) → env ≡ envs m → at ≡ n + total (each_in scope_count places (take m ts)) → w ≡ places m → Gains mid new (Reaches s env at w c) → Gains old new (ReachesBelow s envs n places ts (m + 1))
  child_gains m c here old mid new g env at w e f p h =
      let is : Reaches s env at w c ≡ Reaches s (envs m) (n + total (each_in scope_count places (take m ts))) (places m) c
      = ap (λ env. Reaches s env at w c) e ∙ ap (λ at. Reaches s (envs m) at w c) f ∙ ap (λ w. Reaches s (envs m) (n + total (each_in scope_count places (take m ts))) w c) p in
      gains_both old mid new (ReachesBelow s envs n places ts m) (Reaches s (envs m) (n + total (each_in scope_count places (take m ts))) (places m) c) (ReachesBelow s envs n places ts (m + 1)) g (subst (Gains mid new) is h)
      (λ k v x. one_below m c here k v x)

-- the environments of a node's children
pub pick_same : {A : Type 0} (v : View) (x : A) → pick v x x x ≡ x
pick_same view.Outside x = refl
pick_same view.Parameters x = refl
pick_same view.Whole x = refl

module _ (env : List Open) (n : ℕ) (w : Place) (t : Node) where
  plain_at : (o : Option Scope) (v : View) → o ≡ None → env ≡ map (open_at n w t) (seen_as o v) ++ env
  plain_at None v e = refl
  plain_at (Some s) v e = absurd (cc)

  pub plain_envs : opened w t ≡ None → (seen : View → List Open) → ((v : View) → seen v ≡ env) → (views : ℕ → View) → (λ i. seen (views i)) ≡ entered env n w t
  plain_envs e seen same views = λ j i. (same (views i) ∙ plain_at (opened w t) (view_in (out-Node t) i) e) j

  opened_at : (s : Scope) (v : View) → opened w t ≡ Some s → inside s n env v ≡ map (open_at n w t) (seen_as (Some s) v) ++ env
  opened_at s view.Outside e = refl
  opened_at s view.Parameters e = let m : n ≡ n + 0 = omega arith in ap (λ (z : Option Scope × ℕ). record { scope = z.0; number = z.1; whole = false } ∷ env) (ap (λ o. (o, n)) (sym e) ∙ ap (λ n. (opened w t, n)) m)
  opened_at s view.Whole e = let m : n ≡ n + 0 = omega arith in ap (λ (z : Option Scope × ℕ). record { scope = z.0; number = z.1; whole = true } ∷ env) (ap (λ o. (o, n)) (sym e) ∙ ap (λ n. (opened w t, n)) m)

  pub opened_envs : (s : Scope) → opened w t ≡ Some s → (seen : View → List Open) → ((v : View) → seen v ≡ inside s n env v) → (views : ℕ → View) → views ≡ view_in (out-Node t) → (λ i. seen (views i)) ≡ entered env n w t
  opened_envs s e seen same views v = λ j i. (same (views i) ∙ opened_at s (views i) e ∙ ap (λ v. map (open_at n w t) (seen_as (Some s) v) ++ env) (ap (λ f. f i) v) ∙ ap (λ o. map (open_at n w t) (seen_as o (view_in (out-Node t) i)) ++ env) (sym e)) j

-- a node, by what the code knows of its children
module _ (w : Place) (t : Node) (ts : List Node) (pl : PlacesBelow) where
  pub record Known : Type 0 where
    pub children : ts ≡ children_in (out-Node t)
    pub places : places_of pl ts ≡ place_below w t
    pub views : view_of pl ≡ view_in (out-Node t)
    pub opens : scope_of_fields pl ≡ opened w t
    pub other : is_ident (out-Node t) ≡ false

  pub known_list : t ≡ Many ts → pl ≡ below.Items w → Known
  known_list is p = record {
    children = sym (ap children_in (ap out-Node is ∙ outs-List ts));
    places = ap (λ q. places_of q ts) p ∙ items_below w ts ∙ ap (place_below w) (sym is);
    views = ap view_of p ∙ sym (ap view_in (ap out-Node is ∙ outs-List ts));
    opens = ap scope_of_fields p ∙ sym (ap (opened_in w) (ap out-Node is ∙ outs-List ts));
    other = ap is_ident (ap out-Node is ∙ outs-List ts);
  }

  pub known_tree : (k : Kind) → t ≡ Tree k ts → pl ≡ below.Fields (fields_are w k ts) → Known
  known_tree k is p = record {
    children = sym (ap children_in (ap out-Node is ∙ outs-Tree k ts));
    places = ap (λ q. places_of q ts) p ∙ fields_below w k ts ∙ ap (place_below w) (sym is);
    views = ap view_of p ∙ sym (ap view_in (ap out-Node is ∙ outs-Tree k ts));
    opens = ap scope_of_fields p ∙ fields_opened w k ts ∙ ap (opened w) (sym is);
    other = ap is_ident (ap out-Node is ∙ outs-Tree k ts);
  }

  module _ (known : Known) where
    pub counted : scope_count w t ≡ one_if (is_some (scope_of_fields pl)) + total (each_in scope_count (places_of pl ts) ts)
    counted = count_out w t ∙ ap (λ o. one_if (is_some o) + total (each_in scope_count (place_below w t) (children_in (out-Node t)))) (sym known.opens)
        ∙ ap (λ p. one_if (is_some (scope_of_fields pl)) + total (each_in scope_count p (children_in (out-Node t)))) (sym known.places)
        ∙ ap (λ us. one_if (is_some (scope_of_fields pl)) + total (each_in scope_count (places_of pl ts) us)) (sym known.children)

    module _ (s : Stage) (env : List Open) (n : ℕ) (old new : List ScopeNames) where
      abbrev Members : Gained
      Members = HasMembers n (members_here s (out-Node t)) (length (members_here s (out-Node t)))

      parts : (k : ℕ) (v : Way) (x : List ℕ) → Reaches s env n w t k v x ↔ (Members k v x ⊎ Below s env n w t k v x)
      parts k v x =
          let whole = by_parts s env n w t k v x in
          let own = by_members s env n w (out-Node t) known.other k v x in
          (λ h. ⊎_elim (λ a. inl (own.0 a)) inr (whole.0 h), λ h. whole.1 (⊎_elim (λ a. inl (own.1 a)) inr h))

      children_are : (envs : ℕ → List Open) (m : ℕ) → envs ≡ entered env n w t → m ≡ n + one_if (is_some (opened w t)) → ReachesBelow s envs m (places_of pl ts) ts (length ts) ≡ Below s env n w t
      children_are envs m e f =
          ap (λ envs. ReachesBelow s envs m (places_of pl ts) ts (length ts)) e ∙ ap (λ m. ReachesBelow s (entered env n w t) m (places_of pl ts) ts (length ts)) f
          ∙ ap (λ p. ReachesBelow s (entered env n w t) (n + one_if (is_some (opened w t))) p ts (length ts)) known.places
          ∙ ap (λ ts. ReachesBelow s (entered env n w t) (n + one_if (is_some (opened w t))) (place_below w t) ts (length ts)) known.children

      no_members : opened w t ≡ None → (k : ℕ) (v : Way) (x : List ℕ) → Members k v x → ⊥
      no_members none k v x (e, f, (i, c, l, g, h)) = let gone : length (members_here s (out-Node t)) ≡ 0 = ap length (closed_memberless s w (out-Node t) none) in omega (arith, gone, l)

      pub plain_gains : None ≡ scope_of_fields pl → (seen : View → List Open) → ((v : View) → seen v ≡ env) → Gains old new (ReachesBelow s (λ i. seen (view_of pl i)) n (places_of pl ts) ts (length ts)) → Gains old new (Reaches s env n w t)
      plain_gains nothing seen same g =
          let none : opened w t ≡ None = sym known.opens ∙ sym nothing in
          let start : n ≡ n + one_if (is_some (opened w t)) = let z : one_if (is_some (opened w t)) ≡ 0 = ap (λ (o : Option Scope). one_if (is_some o)) none in omega (arith, z) in
          gains_alike old new (Below s env n w t) (Reaches s env n w t) (subst (Gains old new) (children_are (λ i. seen (view_of pl i)) n (plain_envs env n w t none seen same (view_of pl)) start) g)
          (λ k v x. (λ h. ⊎_elim (λ a. absurd (no_members none k v x a)) (λ a. a) ((parts k v x).0 h), λ h. (parts k v x).1 (inr h)))

      pub opened_gains : (mid : List ScopeNames) (ms : List Node) (number : ℕ) → number ≡ n → ms ≡ members_here s (out-Node t) → Gains old mid (HasMembers number ms (length ms))
          → (sc : Scope) (seen : View → List Open) (m : ℕ) → Some sc ≡ scope_of_fields pl → ((v : View) → seen v ≡ inside sc n env v) → m ≡ n + 1
          → Gains mid new (ReachesBelow s (λ i. seen (view_of pl i)) m (places_of pl ts) ts (length ts)) → Gains old new (Reaches s env n w t)
      opened_gains mid ms number is_n is_ms first sc seen m something same e g =
          let some : opened w t ≡ Some sc = sym known.opens ∙ sym something in
          let start : m ≡ n + one_if (is_some (opened w t)) = let z : one_if (is_some (opened w t)) ≡ 1 = ap (λ (o : Option Scope). one_if (is_some o)) some in omega (arith, z, e) in
          gains_both old mid new Members (Below s env n w t) (Reaches s env n w t)
          (subst (λ ms. Gains old mid (HasMembers n ms (length ms))) is_ms (subst (λ number. Gains old mid (HasMembers number ms (length ms))) is_n first))
          (subst (Gains mid new) (children_are (λ i. seen (view_of pl i)) m (opened_envs env n w t sc some seen same (view_of pl) known.views) start) g) parts

-- a leaf
record IsLeaf (t : Node) : Type 0 where
  other : is_ident (out-Node t) ≡ false
  childless : children_in (out-Node t) ≡ []
  closed : (w : Place) → opened w t ≡ None

leaf_gains : (s : Stage) (env : List Open) (n : ℕ) (w : Place) (t : Node) (old : List ScopeNames) → IsLeaf t → Gains old old (Reaches s env n w t)
leaf_gains s env n w t old leaf = gains_none old (Reaches s env n w t)
    (λ k v x h. ⊎_elim (λ a. none_own k v x ((by_members s env n w (out-Node t) leaf.other k v x).0 a)) (λ b. none_below_it k v x b) ((by_parts s env n w t k v x).0 h))
  where
    none_own : (k : ℕ) (v : Way) (x : List ℕ) → HasMembers n (members_here s (out-Node t)) (length (members_here s (out-Node t))) k v x → ⊥
    none_own k v x (e, f, (i, c, l, g, h)) = let gone : length (members_here s (out-Node t)) ≡ 0 = ap length (closed_memberless s w (out-Node t) (leaf.closed w)) in omega (arith, gone, l)

    none_below_it : (k : ℕ) (v : Way) (x : List ℕ) → Below s env n w t k v x → ⊥
    none_below_it k v x (i, c, l, g, b) = let gone : slice_get (children_in (out-Node t)) i ≡ None = ap (λ ts. slice_get ts i) leaf.childless in let q = sym gone ∙ g in absurd (cc)

-- one member more
module _ (number : ℕ) (ts : List Node) where
  pub no_members_yet : (k : ℕ) (v : Way) (x : List ℕ) → HasMembers number ts 0 k v x → ⊥
  no_members_yet k v x (e, f, (i, c, l, g, h)) = omega (arith, l)

  pub one_member : (m : ℕ) (c : Node) → slice_get ts m ≡ Some c → (k : ℕ) (v : Way) (x : List ℕ) → HasMembers number ts (m + 1) k v x ↔ (HasMembers number ts m k v x ⊎ IsMember number c k v x)
  one_member m c here k v x = (
    λ (e, f, (i, d, l, h, g)). ⊎_elim (λ at. inr (e, f, ap member_name (last i d h at) ∙ g)) (λ ne. inl (e, f, (i, d, less i l ne, h, g))) (same_or_not i m),
    λ h. ⊎_elim (λ (e, f, (i, d, l, g, q)). (e, f, (i, d, (let z : i < m + 1 = omega (arith, l) in z), g, q))) (λ (e, f, g). (e, f, (m, c, (let z : m < m + 1 = omega arith in z), here, g))) h,
  )
    where
      less : (i : ℕ) → i < m + 1 → (i ≡ m → ⊥) → i < m
      less i l ne = ⊎_elim (λ a. a) (λ a. absurd (ne (omega (arith, a, l)))) (cases_lt i m)

      last : (i : ℕ) (d : Node) → slice_get ts i ≡ Some d → i ≡ m → c ≡ d
      last i d h e = let opt : Some c ≡ Some d = sym here ∙ ap (slice_get ts) (sym e) ∙ h in cc

  pub member_gains : (m : ℕ) (c : Node) → slice_get ts m ≡ Some c → (old mid new : List ScopeNames) → Gains old mid (HasMembers number ts m) → Gains mid new (IsMember number c) → Gains old new (HasMembers number ts (m + 1))
  member_gains m c here old mid new g h = gains_both old mid new (HasMembers number ts m) (IsMember number c) (HasMembers number ts (m + 1)) g h (λ k v x. one_member m c here k v x)

-- one name of a member
pub named_gains : (number : ℕ) (c : Node) (name : List ℕ) (old new : List ScopeNames) → member_name c ≡ Some name → Gains old new (IsAdded number member_ways name) → Gains old new (IsMember number c)
named_gains number c name old new is g = gains_alike old new (IsAdded number member_ways name) (IsMember number c) g
    (λ k v x. (
      λ (e, f, h). let same : Some name ≡ Some x = sym is ∙ h in (e, subst (λ v. IsTrue (takes_way member_ways v)) (sym f) refl, (let z : name ≡ x = cc in z)),
      λ (e, way, same). (e, member_takes v way, is ∙ ap (λ n. Some n) same),
    ))

pub nameless_gains : (number : ℕ) (c : Node) (old : List ScopeNames) → member_name c ≡ None → Gains old old (IsMember number c)
nameless_gains number c old none = gains_none old (IsMember number c) (λ k v x (e, f, h). let z = sym none ∙ h in absurd (cc))

-- an identifier
some_same : (a b : ℕ) → Some a ≡ Some b → a ≡ b
some_same a b h = cc

never_taken : (r : Standing) (o : Option Scope) → is_binding r ≡ false → is_taken r o ≡ false
never_taken r None h = refl
never_taken standing.Plain (Some scope.Program) h = refl
never_taken standing.Plain (Some _) h = refl
never_taken standing.Reference (Some scope.Program) h = refl
never_taken standing.Reference (Some _) h = refl
never_taken standing.Body (Some scope.Program) h = refl
never_taken standing.Body (Some _) h = refl
never_taken standing.Branch (Some scope.Program) h = refl
never_taken standing.Branch (Some _) h = refl
never_taken standing.DefaultExport (Some scope.Program) h = refl
never_taken standing.DefaultExport (Some _) h = refl
never_taken standing.Label (Some scope.Program) h = refl
never_taken standing.Label (Some _) h = refl
never_taken standing.Imported (Some scope.Program) h = refl
never_taken standing.Imported (Some _) h = refl
never_taken standing.Exported (Some scope.Program) h = refl
never_taken standing.Exported (Some _) h = refl
never_taken standing.TypeName (Some scope.Program) h = refl
never_taken standing.TypeName (Some _) h = refl
never_taken standing.TypeReference (Some scope.Program) h = refl
never_taken standing.TypeReference (Some _) h = refl
never_taken standing.Variable (Some s) h = absurd (cc)
never_taken standing.Lexical (Some s) h = absurd (cc)
never_taken standing.Function (Some s) h = absurd (cc)
never_taken standing.BlockFunction (Some s) h = absurd (cc)
never_taken standing.SloppyFunction (Some s) h = absurd (cc)
never_taken standing.Parameter (Some s) h = absurd (cc)
never_taken standing.CatchParameter (Some s) h = absurd (cc)
never_taken standing.Import (Some s) h = absurd (cc)
never_taken standing.FunctionName (Some s) h = absurd (cc)
never_taken standing.ClassName (Some s) h = absurd (cc)

pub no_taker : (r : Standing) (env : List Open) → is_binding r ≡ false → taker_in r env ≡ None
no_taker r [] h = refl
no_taker r (o ∷ env) h = rw (never_taken r o.scope h) (no_taker r env h)

no_target : (s : Stage) (r : Standing) (x : List ℕ) (env : List Open) → is_sought s r ≡ false → target_in s r x env ≡ None
no_target stage.Bind standing.TypeName x env h = absurd (cc)
no_target stage.Bind r x env h = no_taker r env h
no_target (stage.Settle b) standing.SloppyFunction x env h = absurd (cc)
no_target (stage.Settle b) standing.Variable x env h = absurd (cc)
no_target (stage.Settle b) _ x env h = refl

module _ (s : Stage) (env : List Open) (q : Standing) (kd : Kind) (i : Ident) (old : List ScopeNames) where
  pub marked_gains : (i.ctxt ≡ [] → ⊥) → Gains old old (TakesIdentifier s env q kd i)
  marked_gains some = gains_none old (TakesIdentifier s env q kd i) (λ k v x (way, name, none, to). some none)

  pub untargeted_gains : target_in s q i.sym env ≡ None → Gains old old (TakesIdentifier s env q kd i)
  untargeted_gains h = gains_none old (TakesIdentifier s env q kd i)
      (λ k v x (way, name, none, to). let e : target_in s q i.sym env ≡ Some k = ap (λ x. target_in s q x env) name ∙ to in let d = sym h ∙ e in absurd (cc))

  pub unsought_gains : is_sought s q ≡ false → Gains old old (TakesIdentifier s env q kd i)
  unsought_gains h = untargeted_gains (no_target s q i.sym env h)

  pub targeted_gains : (new : List ScopeNames) (number : ℕ) → i.ctxt ≡ [] → target_in s q i.sym env ≡ Some number → Gains old new (IsAdded number (ways_by q (names_type q kd)) i.sym) → Gains old new (TakesIdentifier s env q kd i)
  targeted_gains new number none h g = gains_alike old new (IsAdded number (ways_by q (names_type q kd)) i.sym) (TakesIdentifier s env q kd i) g
      (λ k v x. (
        λ (way, name, free, to).
            let e : Some k ≡ Some number = sym to ∙ sym (ap (λ x. target_in s q x env) name) ∙ h in
            (some_same k number e, subst IsTrue (sym (by_takes q kd v)) way, name),
        λ (e, way, name). (subst IsTrue (by_takes q kd v) way, name, none, sym (ap (λ x. target_in s q x env) name) ∙ h ∙ ap (λ n. Some n) (sym e)),
      ))

pub no_marks : (xs ys : List ℕ) → true ≡ (length xs == 0) → xs ≡ ys → ys ≡ []
no_marks [] ys h e = sym e
no_marks (x ∷ xs) ys h e = absurd (grind (arith, nat_tests))

told_leaf : (t : Node) → may_hold_names t ≡ false → IsLeaf t
told_leaf t h = at (out-Node t) refl h
  where
    at : (y : Node-F Node) → out-Node t ≡ y → may_hold_names_in y ≡ false → IsLeaf t
    at (Node-F.List ts) o h = absurd (cc)
    at (Node-F.Identifier k i) o h = absurd (cc)
    at (Node-F.Tree k ts) o h = absurd (cc)
    at y o h = record { other = ap is_ident o; childless = ap children_in o; closed = λ w. ap (opened_in w) o }

-- what is no list, no identifier and no tree
pub nameless : (t : Node) → ((ts : List Node) → t ≡ Many ts → ⊥) → ((k : Kind) (i : Ident) → t ≡ Identifier k i → ⊥) → ((k : Kind) (ts : List Node) → t ≡ Tree k ts → ⊥) → may_hold_names t ≡ false
nameless t no_list no_ident no_tree = at (out-Node t) refl
  where
    at : (y : Node-F Node) → out-Node t ≡ y → may_hold_names_in y ≡ false
    at (Node-F.List ts) o = absurd (no_list ts (list_is t ts o))
    at (Node-F.Identifier k i) o = absurd (no_ident k i (identifier_is t k i o))
    at (Node-F.Tree k ts) o = absurd (no_tree k ts (tree_is t k ts o))
    at y o = refl

-- what the walks pass over
pub leaf_gains_nothing : (s : Stage) (env : List Open) (n : ℕ) (w : Place) (t : Node) (old : List ScopeNames) → may_hold_names t ≡ false → Gains old old (Reaches s env n w t)
leaf_gains_nothing s env n w t old h = leaf_gains s env n w t old (told_leaf t h)

pub leaf_counts_none : (w : Place) (t : Node) → may_hold_names t ≡ false → scope_count w t ≡ 0
leaf_counts_none w t h =
    let l = told_leaf t h in
    count_out w t ∙ ap (λ o. one_if (is_some o) + total (each_in scope_count (place_below w t) (children_in (out-Node t)))) (l.closed w) ∙ ap (λ ts. 0 + total (each_in scope_count (place_below w t) ts)) l.childless
