-- The claims of a node are its own or those of its children.
use Rattle.std.proofs.Common.{◌≡◌, ◌≢◌, ℕ, zero, suc, ◌+◌, ◌<◌, Bool, true, false, IsTrue, ◌⊎◌, ◌↔◌, inl, inr, ⊎_elim, Option, Some, None, List, [], ◌∷◌, take, length, refl, sym, ap, ◌∙◌, subst, arith, cond}
use Rattle.std.specs.List.{slice_get}
use Rattle.std.specs.Option.{is_some}
use Rattle.std.proofs.lemmas.Bool.{cases_lt}
use Rattle.swc_tree_marks.specs.declared.ident.Ident.{Ident}
use Rattle.swc_tree_node.specs.declared.kind.Kind.{Kind}
use Rattle.swc_tree_node.specs.declared.node.Node.{Node, Identifier, out-Node}
use Rattle.swc_tree_node.specs.declared.node.Node.TheOpen.{Node-F}
use Rattle.swc_tree_node.specs.declared.node.Node.TheVariants.{outs-Identifier}
use Rattle.swc_tree_node.specs.Parts.{may_hold_names, may_hold_names_in}
use Rattle.swc_tree_scoping.specs.declared.places.Place.{Place}
use Rattle.swc_tree_scoping.specs.declared.places.Standing.{Standing}
use Rattle.swc_tree_scoping.specs.declared.places.Scope.{Scope}
use Rattle.swc_tree_scoping.specs.declared.places.View.{View}
use Rattle.swc_tree_scoping.specs.declared.below.PlacesBelow.{PlacesBelow}
use Rattle.swc_tree_scoping.specs.Below.{places_of, scope_of_fields, view_of}
use Rattle.swc_tree_scoping.specs.Places.{Path, child, children_in, given, opened, opened_in, place_below, program_place}
use Rattle.swc_tree_scoping.specs.Folds.{each_in}
use Rattle.swc_tree_scoping.specs.Scopes.{is_taken, one_if, scope_count, total}
use Rattle.swc_tree_scoping.proofs.Under.{no_place_under, place_under}
use Rattle.swc_base_resolver_program.specs.Lookup.{Open, taker_in}
use Rattle.swc_base_resolver_program.specs.Walks.{AreBelow, before, entered, inside, open_round}
use Rattle.swc_base_resolver_program.proofs.Counted.{count_out, total_next}
use Rattle.swc_base_resolver_program.proofs.Gathered.{Known, is_ident, leaf_counts_none, opened_envs, plain_envs}
use Rattle.swc_base_early_errors.specs.declared.claims.Claim.{Claim}
use Rattle.swc_base_early_errors.specs.declared.claims.ClaimedNames.{ClaimedNames}
use Rattle.swc_base_early_errors.specs.declared.claims.Rule.{Rule}
use Rattle.swc_base_early_errors.specs.Claims.{Claims, ClaimsAt, ClaimsBelow, ClaimsHere, GivenClaim, Twice, Walked, claim_in}
use Rattle.swc_base_early_errors.proofs.Owned.{of_number}
use Rattle.swc_base_early_errors.proofs.Walked.{Under, more_clashes, two_there, walked_alike, walked_both, walked_none, walked_under}

some_pair : (a b : Place × Node) → Some a ≡ Some b → a ≡ b
some_pair a b e = cc

within : (ts : List Node) (i : ℕ) (c : Node) → slice_get ts i ≡ Some c → i < length ts
within [] i c h = absurd (cc)
within (t ∷ ts) zero c h = omega arith
within (t ∷ ts) (suc i) c h = let r = within ts i c h in omega (arith, r)

none_here : (q : Rule) (env : List Open) (w : Place) (y : Node-F Node) (c : Claim) (x : List ℕ) → is_ident y ≡ false → ClaimsHere q env w y c x → ⊥
none_here q env w (Node-F.Identifier k i) c x e h = absurd (cc)
none_here q env w (Node-F.List ts) c x e h = h
none_here q env w (Node-F.Tree k ts) c x e h = h
none_here q env w _ c x e h = h

-- what is claimed where a claim is given or not
pub given_is : (o : Option Claim) (name : List ℕ) (p : Path) (c : Claim) (x : List ℕ) → GivenClaim o name p c x ↔ ((p ≡ []) × ((o ≡ Some c) × (name ≡ x)))
given_is None name p c x = (λ h. absurd h, λ h. let e : None ≡ Some c = h.1.0 in absurd (cc))
given_is (Some d) name p c x = (λ h. (h.0, (ap (λ d. Some d) (sym h.1), h.2)), λ h. let e : Some d ≡ Some c = h.1.0 in let same : c ≡ d = cc in (h.0, same, h.1.1))

module _ (q : Rule) (env : List Open) (n : ℕ) (w : Place) (t : Node) where
  abbrev pub first_below : ℕ
  first_below = n + one_if (is_some (opened w t))

  abbrev pub begun : ℕ → ℕ
  begun i = first_below + total (each_in scope_count (place_below w t) (take i (children_in (out-Node t))))

  abbrev pub OfNode : Claims
  OfNode = ClaimsAt q env n w t

  abbrev pub OfChildren : Claims
  OfChildren = ClaimsBelow q (entered env n w t) first_below (place_below w t) (children_in (out-Node t)) (length (children_in (out-Node t)))

  shifted : (i : ℕ) → n + before w t i ≡ begun i
  shifted i = omega arith

  round_under : (c : Node) (i : ℕ) (p : Path) → child t i ≡ Some c → open_round env n w t (i ∷ p) ≡ open_round (entered env n w t i) (begun i) (place_below w t i) c p
  round_under c i p h =
      ap (λ o. given o (entered env n w t i) (λ c. open_round (entered env n w t i) (n + before w t i) (place_below w t i) c p)) h
      ∙ ap (λ m. open_round (entered env n w t i) m (place_below w t i) c p) (shifted i)

  under : (d : Node) (i : ℕ) (p : Path) (c : Claim) (x : List ℕ) → child t i ≡ Some d → OfNode (i ∷ p) c x ↔ ClaimsAt q (entered env n w t i) (begun i) (place_below w t i) d p c x
  under d i p c x g = (
    λ h. record { place = h.place; node = h.node; stands = sym (place_under w t d i p g) ∙ h.stands; claims = subst (λ env. ClaimsHere q env h.place (out-Node h.node) c x) (round_under d i p g) h.claims },
    λ h. record { place = h.place; node = h.node; stands = place_under w t d i p g ∙ h.stands; claims = subst (λ env. ClaimsHere q env h.place (out-Node h.node) c x) (sym (round_under d i p g)) h.claims },
  )

  at_root : (c : Claim) (x : List ℕ) → OfNode [] c x → ClaimsHere q env w (out-Node t) c x
  at_root c x h = subst (λ (z : Place × Node). ClaimsHere q env z.0 (out-Node z.1) c x) (sym (some_pair (w, t) (h.place, h.node) h.stands)) h.claims

  pub of_children : is_ident (out-Node t) ≡ false → (p : Path) (c : Claim) (x : List ℕ) → OfNode p c x ↔ OfChildren p c x
  of_children other [] c x = (λ h. none_here q env w (out-Node t) c x other (at_root c x h), λ h. absurd h)
  of_children other (i ∷ p) c x = (λ h. at (child t i) refl h, λ h. (under h.1.0 i p c x h.1.1).1 h.1.2)
    where
      at : (o : Option Node) → child t i ≡ o → OfNode (i ∷ p) c x → OfChildren (i ∷ p) c x
      at None g h = let z = sym (no_place_under w t i p g) ∙ h.stands in absurd (cc)
      at (Some d) g h = (within (children_in (out-Node t)) i d g, (d, g, (under d i p c x g).0 h))

  -- an identifier
  pub of_identifier : (k : Kind) (i : Ident) → t ≡ Identifier k i → (p : Path) (c : Claim) (x : List ℕ) → OfNode p c x ↔ GivenClaim (claim_in q w env) i.sym p c x
  of_identifier k i is [] c x =
      let layer : out-Node t ≡ Node-F.Identifier k i = ap out-Node is ∙ outs-Identifier k i in
      let (forth, back) = given_is (claim_in q w env) i.sym [] c x in (
        λ h. back (refl, subst (λ y. ClaimsHere q env w y c x) layer (at_root c x h)),
        λ h. record { place = w; node = t; stands = refl; claims = subst (λ y. ClaimsHere q env w y c x) (sym layer) (forth h).1 },
      )
  of_identifier k i is (j ∷ p) c x =
      let gone : child t j ≡ None = ap (λ y. slice_get (children_in y) j) (ap out-Node is ∙ outs-Identifier k i) in (
        λ h. let z = sym (no_place_under w t j p gone) ∙ h.stands in absurd (cc),
        λ h. let z : j ∷ p ≡ [] = ((given_is (claim_in q w env) i.sym (j ∷ p) c x).0 h).0 in absurd (cc),
      )

-- where no identifier may stand nothing is claimed
pub none_in_leaf : (q : Rule) (env : List Open) (n : ℕ) (w : Place) (t : Node) → may_hold_names t ≡ false → (p : Path) (c : Claim) (x : List ℕ) → ClaimsAt q env n w t p c x → ⊥
none_in_leaf q env n w t told p c x h = at (out-Node t) refl told
  where
    down : (y : Node-F Node) → out-Node t ≡ y → children_in y ≡ [] → (p : Path) → OfChildren q env n w t p c x → ⊥
    down y o childless [] b = b
    down y o childless (i ∷ p) (l, (d, g, b)) = let gone : slice_get (children_in (out-Node t)) i ≡ None = ap (λ y. slice_get (children_in y) i) o ∙ ap (λ ts. slice_get ts i) childless in let z = sym gone ∙ g in absurd (cc)

    none : (y : Node-F Node) → out-Node t ≡ y → is_ident y ≡ false → children_in y ≡ [] → ⊥
    none y o other childless = down y o childless p ((of_children q env n w t (ap is_ident o ∙ other) p c x).0 h)

    at : (y : Node-F Node) → out-Node t ≡ y → may_hold_names_in y ≡ false → ⊥
    at (Node-F.List ts) o e = absurd (cc)
    at (Node-F.Identifier k i) o e = absurd (cc)
    at (Node-F.Tree k ts) o e = absurd (cc)
    at Node-F.Absent o e = none Node-F.Absent o refl refl
    at (Node-F.Flag b) o e = none (Node-F.Flag b) o refl refl
    at (Node-F.Word b) o e = none (Node-F.Word b) o refl refl
    at (Node-F.Text b) o e = none (Node-F.Text b) o refl refl
    at (Node-F.Span b) o e = none (Node-F.Span b) o refl refl

pub leaf_walked : (q : Rule) (env : List Open) (n : ℕ) (w : Place) (t : Node) (tables : List ClaimedNames) → may_hold_names t ≡ false → Walked false tables tables (scope_count w t) (ClaimsAt q env n w t)
leaf_walked q env n w t tables told = walked_alike false tables tables 0 (scope_count w t) (ClaimsAt q env n w t) (ClaimsAt q env n w t) (sym (leaf_counts_none w t told)) (λ p c x. (λ h. h, λ h. h))
    (walked_none tables (ClaimsAt q env n w t) (none_in_leaf q env n w t told))

-- one child more
module _ (q : Rule) (envs : ℕ → List Open) (n : ℕ) (places : ℕ → Place) (ts : List Node) where
  abbrev pub First : ℕ → Claims
  First = ClaimsBelow q envs n places ts

  abbrev pub At : ℕ → Node → Claims
  At m d = ClaimsAt q (envs m) (n + total (each_in scope_count places (take m ts))) (places m) d

  pub none_first : (tables : List ClaimedNames) → Walked false tables tables 0 (First 0)
  none_first tables = walked_none tables (First 0) none
    where
      none : (p : Path) (c : Claim) (x : List ℕ) → First 0 p c x → ⊥
      none [] c x h = h
      none (i ∷ p) c x h = let l = h.0 in omega (arith, l)

  same_or_not : (k m : ℕ) → (k ≡ m) ⊎ (k ≡ m → ⊥)
  same_or_not zero zero = inl refl
  same_or_not zero (suc m) = inr (λ e. omega (arith, e))
  same_or_not (suc k) zero = inr (λ e. omega (arith, e))
  same_or_not (suc k) (suc m) = ⊎_elim (λ e. inl (ap suc e)) (λ ne. inr (λ e. ne (omega (arith, e)))) (same_or_not k m)

  module _ (m : ℕ) (d : Node) (here : slice_get ts m ≡ Some d) where
    one_more : (p : Path) (c : Claim) (x : List ℕ) → First (m + 1) p c x ↔ (First m p c x ⊎ Under m (At m d) p c x)
    one_more [] c x = (λ h. absurd h, λ h. ⊎_elim (λ a. a) (λ a. let z : [] ≡ m ∷ a.0 = a.1 in absurd (cc)) h)
    one_more (i ∷ p) c x = (
      λ h. ⊎_elim (λ e. inr (last h e)) (λ ne. let l = h.0 in inl (less l ne, h.1)) (same_or_not i m),
      λ h. ⊎_elim (λ a. let l = a.0 in (omega (arith, l), a.1)) (λ a. from_last a) h,
    )
      where
        less : i < m + 1 → (i ≡ m → ⊥) → i < m
        less l ne = ⊎_elim (λ a. a) (λ a. absurd (ne (omega (arith, a, l)))) (cases_lt i m)

        last : First (m + 1) (i ∷ p) c x → i ≡ m → Under m (At m d) (i ∷ p) c x
        last (l, (e, h, b)) is =
            let opt : Some e ≡ Some d = sym h ∙ ap (slice_get ts) is ∙ here in
            let same : e ≡ d = cc in
            (p, ap (λ i. i ∷ p) is, subst (λ d. At m d p c x) same (subst (λ i. At i e p c x) is b))

        from_last : Under m (At m d) (i ∷ p) c x → First (m + 1) (i ∷ p) c x
        from_last (r, e, b) =
            let is : m ≡ i = cc in
            let down : r ≡ p = cc in
            (omega (arith, is), (d, ap (slice_get ts) (sym is) ∙ here, subst (λ i. At i d p c x) is (subst (λ r. At m d r c x) down b)))

    apart : (p r : Path) (c e : Claim) (x y : List ℕ) → First m p c x → Under m (At m d) r e y → p ≢ r
    apart [] r c e x y a b = λ z. absurd a
    apart (i ∷ p) r c e x y (l, a) (s, is, b) = λ z. let head : i ∷ p ≡ m ∷ s = z ∙ is in let same : i ≡ m = cc in omega (arith, same, l)

    module _ (env : List Open) (at : ℕ) (w : Place) (is_env : env ≡ envs m) (is_at : at ≡ n + total (each_in scope_count places (take m ts))) (is_w : w ≡ places m) where
      child_is : (p : Path) (c : Claim) (x : List ℕ) → ClaimsAt q env at w d p c x ≡ At m d p c x
      child_is p c x =
          ap (λ env. ClaimsAt q env at w d p c x) is_env ∙ ap (λ at. ClaimsAt q (envs m) at w d p c x) is_at
          ∙ ap (λ w. ClaimsAt q (envs m) (n + total (each_in scope_count places (take m ts))) w d p c x) is_w

      pub step : (b : Bool) (old mid new : List ClaimedNames) → Walked false old mid (total (each_in scope_count places (take m ts))) (First m) → Walked b mid new (scope_count w d) (ClaimsAt q env at w d)
          → Walked b old new (total (each_in scope_count places (take (m + 1) ts))) (First (m + 1))
      step b old mid new first child =
          let counts = ap (λ w. scope_count w d) is_w in
          let next = total_next places ts m d here in
          walked_alike b old new (total (each_in scope_count places (take m ts)) + scope_count w d) (total (each_in scope_count places (take (m + 1) ts))) (First (m + 1)) (First (m + 1)) (omega (arith, counts, next)) (λ p c x. (λ h. h, λ h. h))
          (walked_both old mid new (total (each_in scope_count places (take m ts))) (scope_count w d) (First m) (Under m (At m d)) (First (m + 1)) first one_more apart b
          (walked_under m b mid new (scope_count w d) (At m d)
          (walked_alike b mid new (scope_count w d) (scope_count w d) (ClaimsAt q env at w d) (At m d) refl
          (λ p c x. (λ h. subst (λ (P : Type 0). P) (sym (child_is p c x)) h, λ h. subst (λ (P : Type 0). P) (child_is p c x) h)) child)))

      -- what clashes among the first does among all
      pub found : (old mid new : List ClaimedNames) (k : ℕ) → m < length ts → Walked false old mid (total (each_in scope_count places (take m ts))) (First m) → Walked true mid new (scope_count w d) (ClaimsAt q env at w d)
          → Walked true old new k (First (length ts))
      found old mid new k l first child = more_clashes old (First (m + 1)) (First (length ts)) all (step true old mid new first child)
        where
          all : (p : Path) (c : Claim) (x : List ℕ) → First (m + 1) p c x → First (length ts) p c x
          all [] c x h = h
          all (i ∷ p) c x h = let a = h.0 in (omega (arith, a, l), h.1)

-- a node, by what the code knows of its children
module _ (w : Place) (t : Node) (ts : List Node) (pl : PlacesBelow) (known : Known w t ts pl) (q : Rule) (env : List Open) (n : ℕ) where
  children_are : (envs : ℕ → List Open) (m : ℕ) → envs ≡ entered env n w t → m ≡ n + one_if (is_some (opened w t)) → (p : Path) (c : Claim) (x : List ℕ)
      → ClaimsBelow q envs m (places_of pl ts) ts (length ts) p c x ≡ OfChildren q env n w t p c x
  children_are envs m e f p c x =
      ap (λ envs. ClaimsBelow q envs m (places_of pl ts) ts (length ts) p c x) e
      ∙ ap (λ m. ClaimsBelow q (entered env n w t) m (places_of pl ts) ts (length ts) p c x) f
      ∙ ap (λ z. ClaimsBelow q (entered env n w t) (n + one_if (is_some (opened w t))) z ts (length ts) p c x) known.places
      ∙ ap (λ ts. ClaimsBelow q (entered env n w t) (n + one_if (is_some (opened w t))) (place_below w t) ts (length ts) p c x) known.children

  node_is : (envs : ℕ → List Open) (m : ℕ) → envs ≡ entered env n w t → m ≡ n + one_if (is_some (opened w t)) → (p : Path) (c : Claim) (x : List ℕ)
      → ClaimsAt q env n w t p c x ↔ ClaimsBelow q envs m (places_of pl ts) ts (length ts) p c x
  node_is envs m e f p c x =
      let same = of_children q env n w t known.other p c x in (
        λ h. subst (λ (P : Type 0). P) (sym (children_are envs m e f p c x)) (same.0 h),
        λ h. same.1 (subst (λ (P : Type 0). P) (children_are envs m e f p c x) h),
      )

  pub plain_walked : None ≡ scope_of_fields pl → (seen : View → List Open) → ((v : View) → seen v ≡ env) → (b : Bool) (old new : List ClaimedNames) (k j : ℕ) → k ≡ j
      → Walked b old new k (ClaimsBelow q (λ i. seen (view_of pl i)) n (places_of pl ts) ts (length ts)) → Walked b old new j (ClaimsAt q env n w t)
  plain_walked nothing seen same b old new k j e =
      let none : opened w t ≡ None = sym known.opens ∙ sym nothing in
      let start : n ≡ n + one_if (is_some (opened w t)) = let z : one_if (is_some (opened w t)) ≡ 0 = ap (λ (o : Option Scope). one_if (is_some o)) none in omega (arith, z) in
      walked_alike b old new k j (ClaimsBelow q (λ i. seen (view_of pl i)) n (places_of pl ts) ts (length ts)) (ClaimsAt q env n w t) e
      (node_is (λ i. seen (view_of pl i)) n (plain_envs env n w t none seen same (view_of pl)) start)

  pub opened_walked : (sc : Scope) (seen : View → List Open) (m : ℕ) → Some sc ≡ scope_of_fields pl → ((v : View) → seen v ≡ inside sc n env v) → m ≡ n + 1 → (b : Bool) (old new : List ClaimedNames) (k : ℕ)
      → Walked b old new k (ClaimsBelow q (λ i. seen (view_of pl i)) m (places_of pl ts) ts (length ts)) → Walked b old new k (ClaimsAt q env n w t)
  opened_walked sc seen m something same e b old new k =
      let some : opened w t ≡ Some sc = sym known.opens ∙ sym something in
      let start : m ≡ n + one_if (is_some (opened w t)) = let z : one_if (is_some (opened w t)) ≡ 1 = ap (λ (o : Option Scope). one_if (is_some o)) some in omega (arith, z, e) in
      walked_alike b old new k k (ClaimsBelow q (λ i. seen (view_of pl i)) m (places_of pl ts) ts (length ts)) (ClaimsAt q env n w t) refl
      (node_is (λ i. seen (view_of pl i)) m (opened_envs env n w t sc some seen same (view_of pl) known.views) start)

-- an identifier, by its claim
identifier_counts_none : (w : Place) (t : Node) (k : Kind) (i : Ident) → t ≡ Identifier k i → scope_count w t ≡ 0
identifier_counts_none w t k i is =
    let layer : out-Node t ≡ Node-F.Identifier k i = ap out-Node is ∙ outs-Identifier k i in
    let all = count_out w t in
    let own : one_if (is_some (opened w t)) ≡ 0 = ap (λ y. one_if (is_some (opened_in w y))) layer in
    let below : total (each_in scope_count (place_below w t) (children_in (out-Node t))) ≡ 0 = ap (λ y. total (each_in scope_count (place_below w t) (children_in y))) layer in
    omega (arith, all, own, below)

pub identifier_walked : (q : Rule) (env : List Open) (n : ℕ) (w : Place) (t : Node) (k : Kind) (i : Ident) → t ≡ Identifier k i → (o : Option Claim) (name : List ℕ) → o ≡ claim_in q w env → name ≡ i.sym
    → (b : Bool) (old new : List ClaimedNames) → Walked b old new 0 (GivenClaim o name) → Walked b old new (scope_count w t) (ClaimsAt q env n w t)
identifier_walked q env n w t k i is o name e f b old new h =
    walked_alike b old new 0 (scope_count w t) (GivenClaim (claim_in q w env) i.sym) (ClaimsAt q env n w t) (sym (identifier_counts_none w t k i is)) (of_identifier q env n w t k i is)
    (subst (λ x. Walked b old new 0 (GivenClaim (claim_in q w env) x)) f (subst (λ o. Walked b old new 0 (GivenClaim o name)) e h))

-- the whole program
pub program_walked : (q : Rule) (t : Node) (b : Bool) (old new : List ClaimedNames) (env : List Open) (k : ℕ) → old ≡ [] → env ≡ [] → Walked b old new k (ClaimsAt q env (length old) program_place t)
    → IsTrue b ↔ Twice (ClaimsAt q [] 0 program_place t)
program_walked q t b old new env k none top h =
    subst (λ env. IsTrue b ↔ Twice (ClaimsAt q env 0 program_place t)) top (subst (λ m. IsTrue b ↔ Twice (ClaimsAt q env m program_place t)) (ap length none) (two_there b old new k (ClaimsAt q env (length old) program_place t) none h))

-- a claim is of a table that is there
taker_below : (r : Standing) (n k : ℕ) (env : List Open) → AreBelow n env → taker_in r env ≡ Some k → k < n
taker_below r n k [] b h = absurd (cc)
taker_below r n k (o ∷ env) b h = next (is_taken r o.scope) h (taker_below r n k env b.1)
  where
    next : (c : Bool) → cond c (Some o.number) (taker_in r env) ≡ Some k → (taker_in r env ≡ Some k → k < n) → k < n
    next true g later = let same : o.number ≡ k = cc in let l = b.0 in omega (arith, same, l)
    next false g later = later g

pub claim_within : (q : Rule) (w : Place) (env : List Open) (n : ℕ) (c : Claim) → AreBelow n env → claim_in q w env ≡ Some c → c.scope < n
claim_within q w env n c b h = taker_below w.standing n c.scope env b (of_number q w.standing (taker_in w.standing env) c h).number
