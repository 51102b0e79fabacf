-- What is once in a list, one text after another.
use Rattle.std.proofs.Common.{◌≡◌, ℕ, Bool, true, false, ◌||◌, List, [], ◌∷◌, ◌++◌, refl, sym, ap, ◌∙◌, cond}
use Rattle.std.specs.List.{list_any}
use Rattle.std.specs.Str.{bytes_eq}
use Rattle.std.proofs.lemmas.Bool.{cond-false, cond-true, cond_both, or_left}
use Rattle.std.proofs.lemmas.Slice.Eq.{bytes_eq-Decides}
use Rattle.mucwathi_mappings.specs.Names.{added, once, without}

abbrev Texts : Type 0
Texts = List (List ℕ)

or_false : (b c : Bool) → b ≡ false → (b || c) ≡ c
or_false true c h = absurd (cc)
or_false false c h = refl

without_same : (x : List ℕ) (l : Texts) → without x (l ++ x ∷ []) ≡ without x l
without_same x [] = cond-true (bytes_eq x x) [] (x ∷ []) ((bytes_eq-Decides x x).1 refl)
without_same x (y ∷ l) = at (bytes_eq x y) (without_same x l)
  where
    at : (b : Bool) → without x (l ++ x ∷ []) ≡ without x l → cond b (without x (l ++ x ∷ [])) (y ∷ without x (l ++ x ∷ [])) ≡ cond b (without x l) (y ∷ without x l)
    at true h = h
    at false h = ap (λ l. y ∷ l) h

without_other : (x z : List ℕ) (l : Texts) → bytes_eq x z ≡ false → without x (l ++ z ∷ []) ≡ without x l ++ z ∷ []
without_other x z [] h = cond-false (bytes_eq x z) [] (z ∷ []) h
without_other x z (y ∷ l) h = at (bytes_eq x y) (without_other x z l h)
  where
    at : (b : Bool) → without x (l ++ z ∷ []) ≡ without x l ++ z ∷ [] → cond b (without x (l ++ z ∷ [])) (y ∷ without x (l ++ z ∷ [])) ≡ cond b (without x l) (y ∷ without x l) ++ z ∷ []
    at true h = h
    at false h = ap (λ l. y ∷ l) h

any_without : (x z : List ℕ) (l : Texts) → bytes_eq x z ≡ false → list_any (bytes_eq z) (without x l) ≡ list_any (bytes_eq z) l
any_without x z [] h = refl
any_without x z (y ∷ l) h = at (bytes_eq x y) refl (any_without x z l h)
  where
    none : bytes_eq x y ≡ true → bytes_eq z y ≡ false
    none e = by (bytes_eq z y) refl
      where
        by : (b : Bool) → bytes_eq z y ≡ b → b ≡ false
        by false f = refl
        by true f = let same : x ≡ z = (bytes_eq-Decides x y).0 e ∙ sym ((bytes_eq-Decides z y).0 f) in sym ((bytes_eq-Decides x z).1 same) ∙ h

    at : (b : Bool) → bytes_eq x y ≡ b → list_any (bytes_eq z) (without x l) ≡ list_any (bytes_eq z) l
        → list_any (bytes_eq z) (cond b (without x l) (y ∷ without x l)) ≡ (bytes_eq z y || list_any (bytes_eq z) l)
    at true e g = g ∙ sym (or_false (bytes_eq z y) (list_any (bytes_eq z) l) (none e))
    at false e g = ap (λ b. bytes_eq z y || b) g

-- one element more
pub once_more : (xs : Texts) (z : List ℕ) → once (xs ++ z ∷ []) ≡ added z (once xs)
once_more [] z = refl
once_more (x ∷ xs) z = ap (λ l. x ∷ without x l) (once_more xs z) ∙ at (bytes_eq x z) refl
  where
    same : bytes_eq x z ≡ true → x ∷ without x (added z (once xs)) ≡ added z (x ∷ without x (once xs))
    same e = let is : x ≡ z = (bytes_eq-Decides x z).0 e in
        ap (λ z. x ∷ without x (added z (once xs))) (sym is)
        ∙ ap (λ l. x ∷ l) (cond_both (list_any (bytes_eq x) (once xs)) (once xs) (once xs ++ x ∷ []) (λ l. without x l ≡ without x (once xs)) (λ g. refl) (λ g. without_same x (once xs)))
        ∙ sym (cond-true (bytes_eq x x || list_any (bytes_eq x) (without x (once xs))) (x ∷ without x (once xs)) ((x ∷ without x (once xs)) ++ x ∷ [])
        (or_left (bytes_eq x x) (list_any (bytes_eq x) (without x (once xs))) ((bytes_eq-Decides x x).1 refl)))
        ∙ ap (λ z. added z (x ∷ without x (once xs))) is

    other : bytes_eq x z ≡ false → x ∷ without x (added z (once xs)) ≡ added z (x ∷ without x (once xs))
    other e =
        let apart : bytes_eq z x ≡ false = turned (bytes_eq z x) refl in
        let test : (bytes_eq z x || list_any (bytes_eq z) (without x (once xs))) ≡ list_any (bytes_eq z) (once xs) = or_false (bytes_eq z x) (list_any (bytes_eq z) (without x (once xs))) apart ∙ any_without x z (once xs) e in
        by (list_any (bytes_eq z) (once xs)) refl
        ∙ sym (ap (λ b. cond b (x ∷ without x (once xs)) ((x ∷ without x (once xs)) ++ z ∷ [])) test)
      where
        turned : (b : Bool) → bytes_eq z x ≡ b → b ≡ false
        turned false f = refl
        turned true f = sym ((bytes_eq-Decides x z).1 (sym ((bytes_eq-Decides z x).0 f))) ∙ e

        by : (b : Bool) → list_any (bytes_eq z) (once xs) ≡ b → x ∷ without x (cond b (once xs) (once xs ++ z ∷ [])) ≡ cond b (x ∷ without x (once xs)) ((x ∷ without x (once xs)) ++ z ∷ [])
        by true f = refl
        by false f = ap (λ l. x ∷ l) (without_other x z (once xs) e)

    at : (b : Bool) → bytes_eq x z ≡ b → x ∷ without x (added z (once xs)) ≡ added z (x ∷ without x (once xs))
    at true e = same e
    at false e = other e
