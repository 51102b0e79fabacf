-- Between a variable and the scope that takes it no catch clause has a parameter of its new text.
use Rattle.std.proofs.Common.{◌≡◌, ℕ, Bool, true, false, ◌⊎◌, inl, inr, ⊎_elim, IsTrue, Some, List, [], ◌∷◌, Contains, refl, sym, ap, ◌∙◌, subst, cond}
use Rattle.swc_tree_node.specs.declared.node.Node.{Node}
use Rattle.swc_tree_scoping.specs.declared.places.Standing.TheVariants as standing
use Rattle.swc_tree_scoping.specs.Places.{Path, program_place}
use Rattle.swc_tree_scoping.specs.Scopes.{Round, first_that, is_taken, rounds, scope_at, taker}
use Rattle.swc_tree_scoping.specs.Declares.{Bound, First, IsUncaught, Meets}
use Rattle.swc_tree_scoping.specs.WellScoped.{EachInOneScope, Stands, IsClean}
use Rattle.swc_tree_scoping.proofs.First.{Nested, rounds_nested}
use Rattle.swc_tree_renaming.specs.Apart.{CapturesNone, DeclaredIn, HasNoSloppy, HasTexts, IsRound, SameScopes}
use Rattle.swc_tree_renaming.proofs.Core.{bound_back, bound_declared, captured, first_in, head_in, stands_back, tail_in, taken_same}

module _ (A R : Node) (m : List ℕ → List ℕ) (same : SameScopes A R) (clear : IsClean A) (cleared : IsClean R) (texts : HasTexts A m R) (settled : HasNoSloppy A) (one : EachInOneScope A) (apart : CapturesNone A m) where
  abbrev V : Round → Bool
  V s = is_taken standing.Variable (scope_at program_place R s.0)

  goes : (p f : Path) (x : List ℕ) → Stands A p standing.Variable x → DeclaredIn A f x → (ss : List Round) → Nested program_place A ss → ((s : Round) → Contains ss s → IsRound A s.0 p)
      → first_that V ss ≡ Some f → First (λ s. IsTrue (V s) ⊎ Bound R s.0 standing.CatchParameter (m x)) ss (Some f)
  goes p f x at d [] nested round e = absurd (cc)
  goes p f x at d (s ∷ ss) nested round e = next (V s) refl e (λ z. goes p f x at d ss nested.1 (λ q h. round q (tail_in s q ss h)) z)
    where
      next : (b : Bool) → V s ≡ b → cond b (Some s.0) (first_that V ss) ≡ Some f → (first_that V ss ≡ Some f → First (λ s. IsTrue (V s) ⊎ Bound R s.0 standing.CatchParameter (m x)) ss (Some f))
          → First (λ s. IsTrue (V s) ⊎ Bound R s.0 standing.CatchParameter (m x)) (s ∷ ss) (Some f)
      next true z e later = inl (inl z, sym e)
      next false z e later = inr (
        (λ q. ⊎_elim
            (λ t. let y = sym z ∙ t in absurd (cc))
            (λ b.
            let (y, a, is) = bound_back A R m same clear cleared texts settled s.0 standing.CatchParameter (m x) b in
            let (whole, there, w) = first_in V ss f e in
            let here : s.0 ≡ f = captured A R m same clear cleared texts settled one apart p standing.Variable x y s.0 f at refl d (round s (head_in s ss)) (inr (whole, subst (λ l. Contains l (f, whole)) nested.0 there))
            (bound_declared A R m same clear cleared texts settled s.0 standing.CatchParameter y a) is in
            let k = sym z ∙ ap (λ q. is_taken standing.Variable (scope_at program_place R q)) here ∙ w in absurd (cc)) q),
        later e,
      )

  pub uncaught : (p f : Path) (y : List ℕ) → Stands R p standing.Variable y → taker standing.Variable R p ≡ Some f → IsUncaught R p y
  uncaught p f y at e =
      let (x, here, is) = stands_back A R m same clear cleared texts settled p standing.Variable y at refl in
      let there = taken_same A R m same clear cleared texts settled standing.Variable p ∙ e in
      let owner : DeclaredIn A f x = record { path = p; standing = standing.Variable; binds = record { at = here; binds = refl }; declared = there } in
      let first = goes p f x here owner (rounds program_place A p) (rounds_nested p program_place A) (λ s h. (s.1, h)) (ap (first_that V) (same.rounds_same p) ∙ e) in
      subst (λ o. Meets R p y o) (sym e)
      (subst (λ y. Meets R p y (Some f)) is (subst (λ ss. First (λ s. IsTrue (V s) ⊎ Bound R s.0 standing.CatchParameter (m x)) ss (Some f)) (same.rounds_same p) first))
