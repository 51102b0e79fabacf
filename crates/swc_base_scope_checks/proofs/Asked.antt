-- Which identifiers pass a test: those of a node are its own and those of its children.
use Rattle.std.proofs.Common.{◌≡◌, ℕ, zero, suc, ◌+◌, ◌<◌, Bool, true, false, ◌||◌, IsTrue, ◌⊎◌, ◌↔◌, inl, inr, ⊎_elim, Option, Some, None, List, [], ◌∷◌, take, length, refl, sym, ap, ◌∙◌, subst, arith}
use Rattle.std.specs.List.{slice_get}
use Rattle.std.specs.Option.{is_some}
use Rattle.std.proofs.lemmas.Bool.{cases_lt}
use Rattle.swc_tree_marks.specs.declared.ident.Ident.{Ident}
use Rattle.swc_tree_node.specs.declared.kind.Kind.{Kind}
use Rattle.swc_tree_node.specs.declared.node.Node.{Node, Identifier, List as Many, Tree, out-Node}
use Rattle.swc_tree_node.specs.declared.node.Node.TheOpen.{Node-F}
use Rattle.swc_tree_node.specs.declared.node.Node.TheVariants.{outs-Identifier, outs-List, outs-Tree}
use Rattle.swc_tree_node.specs.Parts.{may_hold_names, may_hold_names_in}
use Rattle.swc_tree_scoping.specs.declared.places.Place.{Place}
use Rattle.swc_tree_scoping.specs.declared.places.Scope.{Scope}
use Rattle.swc_tree_scoping.specs.declared.places.View.{View}
use Rattle.swc_tree_scoping.specs.declared.below.PlacesBelow.{PlacesBelow}
use Rattle.swc_tree_scoping.specs.Below.{places_of, scope_of_fields, view_of}
use Rattle.swc_tree_scoping.specs.Places.{Path, child, children_in, given, opened, place_at, place_below}
use Rattle.swc_tree_scoping.specs.Folds.{each_in}
use Rattle.swc_tree_scoping.specs.Scopes.{one_if, scope_count, total}
use Rattle.swc_tree_scoping.proofs.Under.{no_place_under, place_under}
use Rattle.swc_base_resolver_program.specs.Lookup.{Open}
use Rattle.swc_base_resolver_program.specs.Walks.{before, entered, inside, open_round}
use Rattle.swc_base_resolver_program.proofs.Gathered.{Known, is_ident, opened_envs, plain_envs}
use Rattle.swc_base_scope_checks.specs.declared.walk.Listed.TheVariants as listed
use Rattle.swc_base_scope_checks.specs.Asked.{Passes, PassesBelow, PassesHere, Test, in_list, listed_at, lists}

some_pair : (a b : Place × Node) → Some a ≡ Some b → a ≡ b
some_pair a b e = cc

within : (ts : List Node) (i : ℕ) (c : Node) → slice_get ts i ≡ Some c → i < length ts
within [] i c h = absurd (cc)
within (t ∷ ts) zero c h = omega arith
within (t ∷ ts) (suc i) c h = let r = within ts i c h in omega (arith, r)

module _ (test : Test) (x : Bool) (env : List Open) (n : ℕ) (w : Place) (t : Node) where
  abbrev pub listed_below : ℕ → Bool
  listed_below i = x || lists (out-Node t) i

  abbrev pub first_below : ℕ
  first_below = n + one_if (is_some (opened w t))

  abbrev pub begun : ℕ → ℕ
  begun i = first_below + total (each_in scope_count (place_below w t) (take i (children_in (out-Node t))))

  abbrev pub Here : Type 0
  Here = PassesHere test x env w (out-Node t)

  abbrev pub Below : Type 0
  Below = PassesBelow test listed_below (entered env n w t) first_below (place_below w t) (children_in (out-Node t)) (length (children_in (out-Node t)))

  shifted : (i : ℕ) → n + before w t i ≡ begun i
  shifted i = omega arith

  round_under : (c : Node) (i : ℕ) (p : Path) → child t i ≡ Some c → open_round env n w t (i ∷ p) ≡ open_round (entered env n w t i) (begun i) (place_below w t i) c p
  round_under c i p h =
      ap (λ o. given o (entered env n w t i) (λ c. open_round (entered env n w t i) (n + before w t i) (place_below w t i) c p)) h
      ∙ ap (λ m. open_round (entered env n w t i) m (place_below w t i) c p) (shifted i)

  list_under : (c : Node) (i : ℕ) (p : Path) → child t i ≡ Some c → in_list x t (i ∷ p) ≡ in_list (listed_below i) c p
  list_under c i p h = ap (λ o. given o (listed_below i) (λ c. in_list (listed_below i) c p)) h

  at_root : (q : Place × Node) → Some (w, t) ≡ Some q → PassesHere test x env q.0 (out-Node q.1) → Here
  at_root q f h = subst (λ (q : Place × Node). PassesHere test x env q.0 (out-Node q.1)) (sym (some_pair (w, t) q f)) h

  forth : (p : Path) (u : Place) (d : Node) → place_at w t p ≡ Some (u, d) → PassesHere test (in_list x t p) (open_round env n w t p) u (out-Node d) → Here ⊎ Below
  forth [] u d place h = inl (at_root (u, d) place h)
  forth (j ∷ p) u d place h = at (child t j) refl
    where
      at : (o : Option Node) → child t j ≡ o → Here ⊎ Below
      at None g = let q = sym (no_place_under w t j p g) ∙ place in absurd (cc)
      at (Some c) g = inr (
        j,
        c,
        within (children_in (out-Node t)) j c g,
        g,
        record {
          path = p;
          place = u;
          node = d;
          stands = sym (place_under w t c j p g) ∙ place;
          passes = subst (λ x. PassesHere test x (open_round (entered env n w t j) (begun j) (place_below w t j) c p) u (out-Node d)) (list_under c j p g)
              (subst (λ env. PassesHere test (in_list x t (j ∷ p)) env u (out-Node d)) (round_under c j p g) h);
        },
      )

  back : Here ⊎ Below → Passes test x env n w t
  back (inl h) = record { path = []; place = w; node = t; stands = refl; passes = h }
  back (inr (j, c, l, g, b)) = record {
    path = j ∷ b.path;
    place = b.place;
    node = b.node;
    stands = place_under w t c j b.path g ∙ b.stands;
    passes = subst (λ x. PassesHere test x (open_round env n w t (j ∷ b.path)) b.place (out-Node b.node)) (sym (list_under c j b.path g))
        (subst (λ env. PassesHere test (in_list (listed_below j) c b.path) env b.place (out-Node b.node)) (sym (round_under c j b.path g)) b.passes);
  }

  -- what passes in a node is the node itself, or passes in a child
  pub by_parts : Passes test x env n w t ↔ (Here ⊎ Below)
  by_parts = (λ h. forth h.path h.place h.node h.stands h.passes, back)

  -- an identifier
  pub by_itself : (k : Kind) (i : Ident) → t ≡ Identifier k i → Passes test x env n w t ↔ IsTrue (test w i x env)
  by_itself k i is =
      let layer : out-Node t ≡ Node-F.Identifier k i = ap out-Node is ∙ outs-Identifier k i in (
        λ h. ⊎_elim (λ a. subst (λ y. PassesHere test x env w y) layer a)
            (λ (j, c, l, g, b). let gone : slice_get (children_in (out-Node t)) j ≡ None = ap (λ y. slice_get (children_in y) j) layer in let q = sym gone ∙ g in absurd (cc)) (by_parts.0 h),
        λ h. by_parts.1 (inl (subst (λ y. PassesHere test x env w y) (sym layer) h)),
      )

-- what is no identifier passes nothing itself
none_here : (test : Test) (x : Bool) (env : List Open) (w : Place) (y : Node-F Node) → is_ident y ≡ false → PassesHere test x env w y → ⊥
none_here test x env w (Node-F.Identifier k i) e h = absurd (cc)
none_here test x env w (Node-F.List ts) e h = h
none_here test x env w (Node-F.Tree k ts) e h = h
none_here test x env w _ e h = h

-- where no identifier may stand none passes
pub none_in_leaf : (test : Test) (x : Bool) (env : List Open) (n : ℕ) (w : Place) (t : Node) → may_hold_names t ≡ false → Passes test x env n w t → ⊥
none_in_leaf test x env n w t h p = at (out-Node t) refl h
  where
    none : (y : Node-F Node) → out-Node t ≡ y → is_ident y ≡ false → children_in y ≡ [] → ⊥
    none y o other childless =
        ⊎_elim (λ a. none_here test x env w (out-Node t) (ap is_ident o ∙ other) a)
        (λ (i, c, l, g, b). let gone : slice_get (children_in (out-Node t)) i ≡ None = ap (λ y. slice_get (children_in y) i) o ∙ ap (λ ts. slice_get ts i) childless in let q = sym gone ∙ g in absurd (cc)) ((by_parts test x env n w t).0 p)

    at : (y : Node-F Node) → out-Node t ≡ y → may_hold_names_in y ≡ false → ⊥
    at (Node-F.List ts) o e = absurd (cc)
    at (Node-F.Identifier k i) o e = absurd (cc)
    at (Node-F.Tree k ts) o e = absurd (cc)
    at Node-F.Absent o e = none Node-F.Absent o refl refl
    at (Node-F.Flag b) o e = none (Node-F.Flag b) o refl refl
    at (Node-F.Word b) o e = none (Node-F.Word b) o refl refl
    at (Node-F.Text b) o e = none (Node-F.Text b) o refl refl
    at (Node-F.Span b) o e = none (Node-F.Span b) o refl refl

-- one child more
module _ (test : Test) (xs : ℕ → Bool) (envs : ℕ → List Open) (n : ℕ) (places : ℕ → Place) (ts : List Node) where
  pub none_below : PassesBelow test xs envs n places ts 0 → ⊥
  none_below (i, c, l, h, b) = omega (arith, l)

  abbrev pub At : ℕ → Node → Type 0
  At m c = Passes test (xs m) (envs m) (n + total (each_in scope_count places (take m ts))) (places m) c

  same_or_not : (k m : ℕ) → (k ≡ m) ⊎ (k ≡ m → ⊥)
  same_or_not zero zero = inl refl
  same_or_not zero (suc m) = inr (λ e. omega (arith, e))
  same_or_not (suc k) zero = inr (λ e. omega (arith, e))
  same_or_not (suc k) (suc m) = ⊎_elim (λ e. inl (ap suc e)) (λ ne. inr (λ e. ne (omega (arith, e)))) (same_or_not k m)

  pub one_below : (m : ℕ) (c : Node) → slice_get ts m ≡ Some c → PassesBelow test xs envs n places ts (m + 1) → PassesBelow test xs envs n places ts m ⊎ At m c
  one_below m c here (i, d, l, h, b) = ⊎_elim (λ e. inr (last e)) (λ ne. inl (i, d, less ne, h, b)) (same_or_not i m)
    where
      less : (i ≡ m → ⊥) → i < m
      less ne = ⊎_elim (λ a. a) (λ a. absurd (ne (omega (arith, a, l)))) (cases_lt i m)

      last : i ≡ m → At m c
      last e =
          let opt : Some d ≡ Some c = sym h ∙ ap (slice_get ts) e ∙ here in
          let same : d ≡ c = cc in
          subst (λ c. At m c) same (subst (λ i. At i d) e b)

  module _ (m : ℕ) (c : Node) (here : slice_get ts m ≡ Some c) where
    pub leaf_none : may_hold_names c ≡ false → (PassesBelow test xs envs n places ts m → ⊥) → PassesBelow test xs envs n places ts (m + 1) → ⊥
    leaf_none told before p = ⊎_elim before (none_in_leaf test (xs m) (envs m) (n + total (each_in scope_count places (take m ts))) (places m) c told) (one_below m c here p)

    module _ (x : Bool) (env : List Open) (at : ℕ) (w : Place) (is_x : x ≡ xs m) (is_env : env ≡ envs m) (is_at : at ≡ n + total (each_in scope_count places (take m ts))) (is_w : w ≡ places m) where
      child_is : Passes test x env at w c ≡ At m c
      child_is =
          ap (λ x. Passes test x env at w c) is_x ∙ ap (λ env. Passes test (xs m) env at w c) is_env ∙ ap (λ at. Passes test (xs m) (envs m) at w c) is_at
          ∙ ap (λ w. Passes test (xs m) (envs m) (n + total (each_in scope_count places (take m ts))) w c) is_w

      -- nothing is found in this child either
      pub still_none : (b : Bool) → IsTrue b ↔ Passes test x env at w c → b ≡ false → (PassesBelow test xs envs n places ts m → ⊥) → PassesBelow test xs envs n places ts (m + 1) → ⊥
      still_none b found fails before p =
          ⊎_elim before (λ a. let z = found.1 (subst (λ (P : Type 0). P) (sym child_is) a) in let y : false ≡ true = sym fails ∙ z in absurd (cc)) (one_below m c here p)

      -- something is found in it
      pub found_below : (b : Bool) → IsTrue b ↔ Passes test x env at w c → b ≡ true → m < length ts → PassesBelow test xs envs n places ts (length ts)
      found_below b found passes l = (m, c, l, here, subst (λ (P : Type 0). P) child_is (found.0 passes))

-- the flags of a node's children
or_false : (b : Bool) → b ≡ (b || false)
or_false true = refl
or_false false = refl

pub listed_items : (x : Bool) (t : Node) (ts : List Node) → t ≡ Many ts → ◌≡◌ {A = ℕ → Bool} (λ i. listed_at (listed.Items x) i) (λ i. x || lists (out-Node t) i)
listed_items x t ts is = λ j i. (or_false x ∙ ap (λ y. x || lists y i) (sym (ap out-Node is ∙ outs-List ts))) j

pub listed_fields : (x : Bool) (t : Node) (k : Kind) (ts : List Node) → t ≡ Tree k ts → ◌≡◌ {A = ℕ → Bool} (λ i. listed_at (listed.Fields k x) i) (λ i. x || lists (out-Node t) i)
listed_fields x t k ts is = λ j i. ap (λ y. x || lists y i) (sym (ap out-Node is ∙ outs-Tree k ts)) j

-- a node, by what the code knows of its children
module _ (w : Place) (t : Node) (ts : List Node) (pl : PlacesBelow) (known : Known w t ts pl) (test : Test) (x : Bool) (env : List Open) (n : ℕ) where
  children_are : (xs : ℕ → Bool) (envs : ℕ → List Open) (m : ℕ) → xs ≡ (λ i. x || lists (out-Node t) i) → envs ≡ entered env n w t → m ≡ n + one_if (is_some (opened w t))
      → PassesBelow test xs envs m (places_of pl ts) ts (length ts) ≡ Below test x env n w t
  children_are xs envs m g e f =
      ap (λ xs. PassesBelow test xs envs m (places_of pl ts) ts (length ts)) g
      ∙ ap (λ envs. PassesBelow test (λ i. x || lists (out-Node t) i) envs m (places_of pl ts) ts (length ts)) e
      ∙ ap (λ m. PassesBelow test (λ i. x || lists (out-Node t) i) (entered env n w t) m (places_of pl ts) ts (length ts)) f
      ∙ ap (λ p. PassesBelow test (λ i. x || lists (out-Node t) i) (entered env n w t) (n + one_if (is_some (opened w t))) p ts (length ts)) known.places
      ∙ ap (λ ts. PassesBelow test (λ i. x || lists (out-Node t) i) (entered env n w t) (n + one_if (is_some (opened w t))) (place_below w t) ts (length ts)) known.children

  in_children : Below test x env n w t ↔ Passes test x env n w t
  in_children =
      let (forth, back) = by_parts test x env n w t in
      (λ b. back (inr b), λ p. ⊎_elim (λ a. absurd (none_here test x env w (out-Node t) known.other a)) (λ b. b) (forth p))

  pub plain_passes : None ≡ scope_of_fields pl → (xs : ℕ → Bool) → xs ≡ (λ i. x || lists (out-Node t) i) → (seen : View → List Open) → ((v : View) → seen v ≡ env)
      → PassesBelow test xs (λ i. seen (view_of pl i)) n (places_of pl ts) ts (length ts) ↔ Passes test x env n w t
  plain_passes nothing xs g seen same =
      let none : opened w t ≡ None = sym known.opens ∙ sym nothing in
      let start : n ≡ n + one_if (is_some (opened w t)) = let z : one_if (is_some (opened w t)) ≡ 0 = ap (λ (o : Option Scope). one_if (is_some o)) none in omega (arith, z) in
      subst (λ (P : Type 0). P ↔ Passes test x env n w t) (sym (children_are xs (λ i. seen (view_of pl i)) n g (plain_envs env n w t none seen same (view_of pl)) start)) in_children

  pub opened_passes : (sc : Scope) (seen : View → List Open) (m : ℕ) → Some sc ≡ scope_of_fields pl → (xs : ℕ → Bool) → xs ≡ (λ i. x || lists (out-Node t) i) → ((v : View) → seen v ≡ inside sc n env v) → m ≡ n + 1
      → PassesBelow test xs (λ i. seen (view_of pl i)) m (places_of pl ts) ts (length ts) ↔ Passes test x env n w t
  opened_passes sc seen m something xs g same e =
      let some : opened w t ≡ Some sc = sym known.opens ∙ sym something in
      let start : m ≡ n + one_if (is_some (opened w t)) = let z : one_if (is_some (opened w t)) ≡ 1 = ap (λ (o : Option Scope). one_if (is_some o)) some in omega (arith, z, e) in
      subst (λ (P : Type 0). P ↔ Passes test x env n w t) (sym (children_are xs (λ i. seen (view_of pl i)) m g (opened_envs env n w t sc some seen same (view_of pl) known.views) start)) in_children

-- one after another
pub in_turn : {A B C : Type 0} → A ↔ B → B ↔ C → A ↔ C
in_turn f g = (λ a. g.0 (f.0 a), λ c. f.1 (g.1 c))

pub swapped : (a b : Bool) (P : Type 0) → a ≡ b → P ↔ IsTrue b → IsTrue a ↔ P
swapped a b P e f = (λ h. f.1 (subst IsTrue e h), λ p. subst IsTrue (sym e) (f.0 p))

pub all_taken : (ts : List Node) → take (length ts) ts ≡ ts
all_taken [] = refl
all_taken (t ∷ ts) = ap (λ us. t ∷ us) (all_taken ts)
