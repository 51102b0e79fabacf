-- It costs one number to rename a scope: two lists without repeats that have the same items are equally long.
use Rattle.std.proofs.Common.{◌≡◌, zero, suc, ◌≤◌, ◌⊎◌, inl, inr, List, [], ◌∷◌, length, Contains, refl, sym, ◌∙◌, subst, arith}
use Rattle.swc_base_rename_analysis.specs.Analysis.{EachOnce}
use Rattle.swc_base_rename_analysis.specs.Laws.{CostIsOne}

module _ {X : Type 0} where
  -- an item of a list, by its place
  abbrev In : X → List X → Type 0
  In x [] = ⊥
  In x (y ∷ ys) = (y ≡ x) ⊎ In x ys

  is_in : (xs : List X) (x : X) → Contains xs x → In x xs
  is_in [] x (n, l, e) = absurd (omega arith)
  is_in (y ∷ ys) x (zero, l, e) = inl e
  is_in (y ∷ ys) x (suc n, l, e) = inr (is_in ys x (n, (omega arith), e))

  contained : (xs : List X) (x : X) → In x xs → Contains xs x
  contained [] x h = absurd h
  contained (y ∷ ys) x (inl e) = (0, (omega arith), e)
  contained (y ∷ ys) x (inr h) = let (n, l, e) = contained ys x h in (suc n, (omega arith), e)

  abbrev without : (ys : List X) (x : X) → In x ys → List X
  without [] x h = []
  without (y ∷ ys) x (inl e) = ys
  without (y ∷ ys) x (inr h) = y ∷ without ys x h

  one_less : (ys : List X) (x : X) (h : In x ys) → length ys ≡ suc (length (without ys x h))
  one_less [] x h = absurd h
  one_less (y ∷ ys) x (inl e) = refl
  one_less (y ∷ ys) x (inr h) = let l = one_less ys x h in omega arith

  others_stay : (ys : List X) (x z : X) (h : In x ys) → (x ≡ z → ⊥) → In z ys → In z (without ys x h)
  others_stay [] x z h n g = absurd h
  others_stay (y ∷ ys) x z (inl e) n (inl g) = absurd (n (sym e ∙ g))
  others_stay (y ∷ ys) x z (inl e) n (inr g) = g
  others_stay (y ∷ ys) x z (inr h) n (inl g) = inl g
  others_stay (y ∷ ys) x z (inr h) n (inr g) = inr (others_stay ys x z h n g)

  no_longer : (xs ys : List X) → EachOnce xs → ((x : X) → In x xs → In x ys) → length xs ≤ length ys
  no_longer [] ys once all = omega arith
  no_longer (x ∷ xs) ys (new, once) all =
      let here = all x (inl refl) in
      let shorter = no_longer xs (without ys x here) once (λ z h. others_stay ys x z here (λ e. new (contained xs x (subst (λ z. In z xs) (sym e) h))) (all z (inr h))) in
      let less = one_less ys x here in
      omega arith

pub cost_is_one : CostIsOne
cost_is_one t s one other a b =
    let below = no_longer a.ids b.ids a.each_once (λ x h. is_in b.ids x ((b.just_these x).1 ((a.just_these x).0 (contained a.ids x h)))) in
    let above = no_longer b.ids a.ids b.each_once (λ x h. is_in a.ids x ((a.just_these x).1 ((b.just_these x).0 (contained b.ids x h)))) in
    let counted = a.counted in
    let counted_too = b.counted in
    omega arith
