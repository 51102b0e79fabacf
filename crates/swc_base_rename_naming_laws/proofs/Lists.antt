-- Of lists: what stands at an index of their first elements, and the places at which one contains an element.
use Rattle.std.proofs.Common.{◌≡◌, ℕ, zero, suc, ◌<◌, ◌⊎◌, inl, inr, Bool, true, false, ◌||◌, Some, None, List, [], ◌∷◌, ◌++◌, Contains, length, map, take, refl, sym, ap, ◌∙◌, arith}
use Rattle.std.specs.List.{list_any, slice_get}
use Rattle.std.proofs.lemmas.Bool.{or_right}

pub cons_head : {A : Type 0} {x y : A} {xs ys : List A} → x ∷ xs ≡ y ∷ ys → x ≡ y
cons_head e = cc

pub cons_tail : {A : Type 0} {x y : A} {xs ys : List A} → x ∷ xs ≡ y ∷ ys → xs ≡ ys
cons_tail e = cc

pub same_some : {A : Type 0} {x y : A} → Some x ≡ Some y → x ≡ y
same_some e = cc

pub no_room : {A : Type 0} (before : List A) (y : A) (after : List A) → [] ≡ before ++ y ∷ after → ⊥
no_room [] y after e = absurd (cc)
no_room (b ∷ before) y after e = absurd (cc)

pub none_is_some : {A X : Type 0} {x : X} → None ≡ Some x → A
none_is_some e = absurd (cc)

-- the last of a list, or one before it
pub split_last : {A : Type 0} (xs : List A) (z : A) (before : List A) (y : A) (after : List A) → xs ++ z ∷ [] ≡ before ++ y ∷ after → ((before ≡ xs) × (y ≡ z)) ⊎ ((others : List A) × (xs ≡ before ++ y ∷ others))
split_last [] z [] y after e = inl (refl, sym (cons_head e))
split_last [] z (b ∷ before) y after e = absurd (no_room before y after (cons_tail e))
split_last (x ∷ xs) z [] y after e = inr (xs, ap (λ h. h ∷ xs) (cons_head e))
split_last (x ∷ xs) z (b ∷ before) y after e = elim (split_last xs z before y after (cons_tail e)) [
  | inl h ↦ inl (ap (λ h. h ∷ before) (sym (cons_head e)) ∙ ap (λ t. x ∷ t) h.0, h.1)
  | inr h ↦ inr (h.0, ap (λ h. h ∷ xs) (cons_head e) ∙ ap (λ t. b ∷ t) h.1)
]

-- a list is empty or has a last element
pub snoc : {A : Type 0} (xs : List A) → (xs ≡ []) ⊎ ((us : List A) × (x : A) × (xs ≡ us ++ x ∷ []))
snoc [] = inl refl
snoc (x ∷ xs) = elim (snoc xs) [
  | inl e ↦ inr ([], x, ap (λ l. x ∷ l) e)
  | inr h ↦ inr (x ∷ h.0, h.1, ap (λ l. x ∷ l) h.2)
]

pub snoc_length : {A : Type 0} (xs : List A) (x : A) → length (xs ++ x ∷ []) ≡ suc (length xs)
snoc_length [] x = refl
snoc_length (y ∷ xs) x = ap suc (snoc_length xs x)

-- where one contains an element
pub contains_here : {A : Type 0} (x : A) (xs : List A) → Contains (x ∷ xs) x
contains_here x xs = (zero, omega arith, refl)

pub contains_later : {A : Type 0} (y : A) (xs : List A) (x : A) → Contains xs x → Contains (y ∷ xs) x
contains_later y xs x (k, l, e) = (suc k, omega (arith, l), e)

pub none_in : {A X : Type 0} {x : X} → Contains [] x → A
none_in (k, l, e) = absurd (omega (arith, l))

pub split_there : {A : Type 0} (xs : List A) (x : A) → Contains xs x → (us vs : List A) × (xs ≡ us ++ x ∷ vs)
split_there [] x c = none_in c
split_there (y ∷ xs) x (zero, l, e) = ([], xs, ap (λ y. y ∷ xs) e)
split_there (y ∷ xs) x (suc k, l, e) = let (us, vs, s) = split_there xs x (k, omega (arith, l), e) in (y ∷ us, vs, ap (λ l. y ∷ l) s)

pub mapped_from : {X Y : Type 0} (f : X → Y) (xs : List X) (y : Y) → Contains (map f xs) y → (x : X) × Contains xs x × (f x ≡ y)
mapped_from f [] y c = none_in c
mapped_from f (x ∷ xs) y (zero, l, e) = (x, contains_here x xs, e)
mapped_from f (x ∷ xs) y (suc k, l, e) = let (z, c, same) = mapped_from f xs y (k, omega (arith, l), e) in (z, contains_later x xs z c, same)

-- what stands at an index, among the first
pub take_next : {A : Type 0} (xs : List A) (i : ℕ) (x : A) → slice_get xs i ≡ Some x → take (suc i) xs ≡ take i xs ++ x ∷ []
take_next [] i x e = none_is_some e
take_next (y ∷ xs) zero x e = ap (λ y. y ∷ []) (same_some e)
take_next (y ∷ xs) (suc i) x e = ap (λ l. y ∷ l) (take_next xs i x e)

pub take_past : {A : Type 0} (xs : List A) (i : ℕ) → slice_get xs i ≡ None → take (suc i) xs ≡ take i xs
take_past [] zero e = refl
take_past [] (suc i) e = refl
take_past (y ∷ xs) zero e = none_is_some (sym e)
take_past (y ∷ xs) (suc i) e = ap (λ l. y ∷ l) (take_past xs i e)

pub taken_at : {A : Type 0} (xs : List A) (j i : ℕ) (x : A) → i < j → slice_get xs i ≡ Some x → slice_get (take j xs) i ≡ Some x
taken_at [] j i x l e = none_is_some e
taken_at (y ∷ xs) zero i x l e = absurd (omega (arith, l))
taken_at (y ∷ xs) (suc j) zero x l e = e
taken_at (y ∷ xs) (suc j) (suc i) x l e = taken_at xs j i x (omega (arith, l)) e

pub from_taken : {A : Type 0} (xs : List A) (j i : ℕ) (x : A) → slice_get (take j xs) i ≡ Some x → (i < j) × (slice_get xs i ≡ Some x)
from_taken [] zero i x e = none_is_some e
from_taken [] (suc j) i x e = none_is_some e
from_taken (y ∷ xs) zero i x e = none_is_some e
from_taken (y ∷ xs) (suc j) zero x e = (omega arith, e)
from_taken (y ∷ xs) (suc j) (suc i) x e = let (l, f) = from_taken xs j i x e in (omega (arith, l), f)

pub after_front : {A : Type 0} (xs : List A) (x : A) (ys : List A) → slice_get (xs ++ x ∷ ys) (length xs) ≡ Some x
after_front [] x ys = refl
after_front (y ∷ xs) x ys = after_front xs x ys

pub front_taken : {A : Type 0} (xs ys : List A) → take (length xs) (xs ++ ys) ≡ xs
front_taken [] [] = refl
front_taken [] (y ∷ ys) = refl
front_taken (x ∷ xs) ys = ap (λ l. x ∷ l) (front_taken xs ys)

pub whole_taken : {A : Type 0} (xs : List A) → take (length xs) xs ≡ xs
whole_taken [] = refl
whole_taken (x ∷ xs) = ap (λ l. x ∷ l) (whole_taken xs)

pub mapped_at : {X Y : Type 0} (f : X → Y) (xs : List X) (i : ℕ) (x : X) → slice_get xs i ≡ Some x → slice_get (map f xs) i ≡ Some (f x)
mapped_at f [] i x e = none_is_some e
mapped_at f (y ∷ xs) zero x e = ap (λ y. Some (f y)) (same_some e)
mapped_at f (y ∷ xs) (suc i) x e = mapped_at f xs i x e

pub from_mapped_at : {X Y : Type 0} (f : X → Y) (xs : List X) (i : ℕ) (y : Y) → slice_get (map f xs) i ≡ Some y → (x : X) × (slice_get xs i ≡ Some x) × (f x ≡ y)
from_mapped_at f [] i y e = none_is_some e
from_mapped_at f (x ∷ xs) zero y e = (x, refl, same_some e)
from_mapped_at f (x ∷ xs) (suc i) y e = from_mapped_at f xs i y e

pub within : {A : Type 0} (xs : List A) (i : ℕ) (x : A) → slice_get xs i ≡ Some x → i < length xs
within [] i x e = none_is_some e
within (y ∷ xs) zero x e = omega arith
within (y ∷ xs) (suc i) x e = let l = within xs i x e in omega (arith, l)

-- whether any passes a test
pub any_at : {A : Type 0} (p : A → Bool) (xs : List A) (i : ℕ) (x : A) → slice_get xs i ≡ Some x → p x ≡ true → list_any p xs ≡ true
any_at p [] i x e h = none_is_some e
any_at p (y ∷ xs) zero x e h = ap (λ b. b || list_any p xs) (ap p (same_some e) ∙ h)
any_at p (y ∷ xs) (suc i) x e h = or_right (p y) (list_any p xs) (any_at p xs i x e h)

pub any_found : {A : Type 0} (p : A → Bool) (xs : List A) → list_any p xs ≡ true → (i : ℕ) × (x : A) × (slice_get xs i ≡ Some x) × (p x ≡ true)
any_found p [] h = absurd (cc)
any_found {A} p (x ∷ xs) h = by (any_found p xs) (p x) refl h
  where
    by : (list_any p xs ≡ true → (i : ℕ) × (x : A) × (slice_get xs i ≡ Some x) × (p x ≡ true)) → (b : Bool) → p x ≡ b → (b || list_any p xs) ≡ true → (i : ℕ) × (y : A) × (slice_get (x ∷ xs) i ≡ Some y) × (p y ≡ true)
    by more true e g = (zero, x, refl, e)
    by more false e g = let (i, y, f, s) = more g in (suc i, y, f, s)

pub any_in : {A : Type 0} (p : A → Bool) (xs : List A) (x : A) → Contains xs x → p x ≡ true → list_any p xs ≡ true
any_in p [] x c h = none_in c
any_in p (y ∷ xs) x (zero, l, e) h = ap (λ b. b || list_any p xs) (ap p e ∙ h)
any_in p (y ∷ xs) x (suc k, l, e) h = or_right (p y) (list_any p xs) (any_in p xs x (k, omega (arith, l), e) h)

pub any_contained : {A : Type 0} (p : A → Bool) (xs : List A) → list_any p xs ≡ true → (x : A) × Contains xs x × (p x ≡ true)
any_contained p [] h = absurd (cc)
any_contained {A} p (x ∷ xs) h = by (any_contained p xs) (p x) refl h
  where
    by : (list_any p xs ≡ true → (x : A) × Contains xs x × (p x ≡ true)) → (b : Bool) → p x ≡ b → (b || list_any p xs) ≡ true → (y : A) × Contains (x ∷ xs) y × (p y ≡ true)
    by more true e g = (x, contains_here x xs, e)
    by more false e g = let (y, c, s) = more g in (y, contains_later x xs y c, s)
