-- What follows when reading succeeds.
use Rattle.std.proofs.Common.{◌≡◌, ℕ, List, [], ◌∷◌, Bool, true, false, ◌||◌, ◌==◌, cond, Option, Some, None, option_and_then, Ok, Err, eq-eqb, refl, sym, ap, ◌∙◌}
use Rattle.std.specs.List.{find, list_any}
use Rattle.jsbase_form.specs.Reads.{Part, Read, ◌>>=◌, at, found}

abbrev pub done : {A : Type 0} → A → Read A
done a = Ok a

-- both steps succeeded
pub bound : {A B : Type 0} (r : Read A) (f : A → Read B) (b : B) → (r >>= f) ≡ Ok b → (a : A) × (r ≡ Ok a) × (f a ≡ Ok b)
bound (Ok a) f b h = (a, refl, h)
bound (Err p) f b h = absurd (cc)

pub at_ok : {A : Type 0} (part : Part) (r : Read A) (a : A) → at part r ≡ Ok a → r ≡ Ok a
at_ok part (Ok x) a h = h
at_ok part (Err p) a h = absurd (cc)

pub found_ok : {A : Type 0} (o : Option A) (a : A) → found o ≡ Ok a → o ≡ Some a
found_ok (Some x) a h = cc
found_ok None a h = absurd (cc)

pub ok_same : {A : Type 0} (a b : A) → done a ≡ done b → a ≡ b
ok_same a b h = cc

pub chosen : {A : Type 0} (b : Bool) (x y : A) → cond b (done x) (Err []) ≡ done y → (b ≡ true) × (x ≡ y)
chosen true x y h = (refl, cc)
chosen false x y h = absurd (cc)

passes_step : {X : Type 0} (p : X → Bool) (b : Bool) (y : X) (ys : List X) (x : X) → p y ≡ b → (find p ys ≡ Some x → p x ≡ true) → cond b (Some y) (find p ys) ≡ Some x → p x ≡ true
passes_step p true y ys x is later h = let same : y ≡ x = cc in sym (ap p same) ∙ is
passes_step p false y ys x is later h = later h

-- what a search finds passes its test
pub find_passes : {X : Type 0} (p : X → Bool) (xs : List X) (x : X) → find p xs ≡ Some x → p x ≡ true
find_passes p [] x h = absurd (cc)
find_passes p (y ∷ ys) x h = passes_step p (p y) y ys x refl (find_passes p ys x) h

among_step : {X : Type 0} (p : X → Bool) (number : X → ℕ) (b : Bool) (y : X) (ys : List X) (x : X) → (find p ys ≡ Some x → list_any (λ z. number x == number z) ys ≡ true) → cond b (Some y) (find p ys) ≡ Some x
    → (number x == number y) || list_any (λ z. number x == number z) ys ≡ true
among_step p number true y ys x later h = let same : y ≡ x = cc in let e : (number x == number y) ≡ true = eq-eqb (number x) (number y) (sym (ap number same)) in rw e refl
among_step p number false y ys x later h = or_true (number x == number y) (later h)
  where
    or_true : (a : Bool) {b : Bool} → b ≡ true → a || b ≡ true
    or_true true e = refl
    or_true false e = e

-- what a search finds is one of the list, by its number
pub find_among : {X : Type 0} (p : X → Bool) (number : X → ℕ) (xs : List X) (x : X) → find p xs ≡ Some x → list_any (λ z. number x == number z) xs ≡ true
find_among p number [] x h = absurd (cc)
find_among p number (y ∷ ys) x h = among_step p number (p y) y ys x (find_among p number ys x) h

pub some_then : {A B : Type 0} (f : A → Option B) (o : Option A) (b : B) → option_and_then f o ≡ Some b → (a : A) × (o ≡ Some a) × (f a ≡ Some b)
some_then f (Some a) b h = (a, refl, h)
some_then f None b h = absurd (cc)
