-- A path to a node that passes a test, from the last step to the first.
use Rattle.std.proofs.Common.{◌≡◌, ℕ, zero, suc, ◌+◌, ◌<◌, ◌≤◌, Bool, true, false, IsTrue, ◌↔◌, ◌⊎◌, inl, inr, Option, Some, None, Vec, List, [], ◌∷◌, ◌++◌, length, reverse, sym, ap, ◌∙◌, subst, arith}
use Rattle.std.specs.List.{slice_get}
use Rattle.std.proofs.lemmas.List.{reverse-append}
use Rattle.std.proofs.lemmas.Option.{slice_get_within}
use Rattle.swc_tree_node.specs.declared.node.Node.{Node, out-Node}
use Rattle.swc_tree_node.specs.declared.node.Node.TheOpen.{Node-F}
use Rattle.swc_tree_scoping.specs.Places.{children_in, given}
use Rattle.swc_tree_walk.specs.Nodes.{AnyHasNode, HasNode, node_at}
use Rattle.swc_tree_walk.proofs.Found.{is_below as has_below}
use Rattle.text_writing.specs.Places.{Leads, LeadsBelow, PassesAt, PassesBelow}

before_or_not : (i j : ℕ) → (i < j) ⊎ (j ≤ i)
before_or_not i zero = inr (omega arith)
before_or_not zero (suc j) = inl (omega arith)
before_or_not (suc i) (suc j) = by (before_or_not i j)
  where
    by : (i < j) ⊎ (j ≤ i) → (suc i < suc j) ⊎ (suc j ≤ suc i)
    by (inl l) = inl (omega (arith, l))
    by (inr l) = inr (omega (arith, l))

some_same : {X : Type 0} {a b : X} → Some a ≡ Some b → a ≡ b
some_same h = cc

module _ (test : Node-F Node → Bool) where
  -- none of some trees has one
  abbrev pub NoneBefore : List Node → ℕ → Type 0
  NoneBefore ts i = (k : ℕ) (d : Node) → k < i → slice_get ts k ≡ Some d → HasNode test d → ⊥

  pub none_further : (ts : List Node) (i : ℕ) (c : Node) → slice_get ts i ≡ Some c → (HasNode test c → ⊥) → NoneBefore ts i → NoneBefore ts (i + 1)
  none_further ts i c here free before k d within at h = by (before_or_not k i)
    where
      by : (k < i) ⊎ (i ≤ k) → ⊥
      by (inl less) = before k d less at h
      by (inr more) =
          let e : k ≡ i = omega (arith, within, more) in
          free (subst (HasNode test) (some_same (sym at ∙ ap (slice_get ts) e ∙ here)) h)

  pub none_below : (ts : List Node) (i : ℕ) → length ts ≤ i → NoneBefore ts i → AnyHasNode test ts → ⊥
  none_below ts i end before (k, d, at, h) = before k d (let within = slice_get_within ts k d at in omega (arith, end, within)) at h

  -- a path turned round
  pub turned : (t : Node) (p q : List ℕ) → q ≡ reverse p → PassesAt test t (reverse p) → PassesAt test t q
  turned t p q e h = subst (PassesAt test t) (sym e) h

  -- at the tree itself
  pub leads_here : (t : Node) (b : Bool) (p : List ℕ) → b ≡ test (out-Node t) → b ≡ true → p ≡ [] → PassesAt test t (reverse p)
  leads_here t b p is found none = (t, ap (λ p. node_at t (reverse p)) none, sym is ∙ found)

  -- a step further
  pub leads_further : (ts : List Node) (i : ℕ) (c : Node) (p q : List ℕ) → slice_get ts i ≡ Some c → q ≡ p ++ i ∷ [] → PassesAt test c (reverse p) → PassesBelow test ts (reverse q)
  leads_further ts i c p q e is h = subst (PassesBelow test ts) (sym (ap reverse is ∙ reverse-append p (i ∷ []))) (c, e, h)

  nowhere : (t : Node) (a : Bool) (us : List Node) → us ≡ children_in (out-Node t) → a ≡ test (out-Node t) → a ≡ false → (AnyHasNode test us → ⊥) → HasNode test t → ⊥
  nowhere t a us same is lost h g =
      let both : IsTrue false ↔ AnyHasNode test us = (λ e. absurd (cc), λ w. absurd (h w)) in
      let never : false ≡ true = (has_below test t a false us same is lost both).1 g in
      absurd (cc)

  somewhere : (t : Node) (us : List Node) → us ≡ children_in (out-Node t) → (q : List ℕ) → PassesBelow test us q → PassesAt test t q
  somewhere t us same [] h = absurd h
  somewhere t us same (i ∷ q) (c, e, (n, at, r)) = (n, ap (λ o. given o None (λ c. node_at c q)) (ap (λ us. slice_get us i) (sym same) ∙ e) ∙ at, r)

  -- where the tree is none, the way leads below it
  pub leads_below : {Z : Type 0} (t : Node) (a : Bool) (us : List Node) (o : Option (Vec ℕ Z)) → us ≡ children_in (out-Node t) → a ≡ test (out-Node t) → a ≡ false → LeadsBelow test us o → Leads test t o
  leads_below t a us None same is lost h = nowhere t a us same is lost h
  leads_below t a us (Some p) same is lost h = somewhere t us same (reverse p.items) h
