-- Lists of which all items, all pairs of items in their order, or all items by their numbers have something.
use Rattle.std.proofs.Common.{◌≡◌, ℕ, zero, suc, ◌+◌, ◌<◌, ◌≤◌, Some, List, [], ◌∷◌, ◌++◌, length, arith, subst}
use Rattle.std.specs.List.{slice_get}
use Rattle.swc_base_rename_analysis_laws.proofs.Items.{some_same}

abbrev pub All : {X : Type 0} → (X → Type 0) → List X → Type 0
All P [] = Unit {0}
All P (x ∷ xs) = P x × All P xs

abbrev pub Cross : {X Y : Type 0} → (X → Y → Type 0) → List X → List Y → Type 0
Cross R [] ys = Unit {0}
Cross R (x ∷ xs) ys = All (R x) ys × Cross R xs ys

abbrev pub Pairs : {X : Type 0} → (X → X → Type 0) → List X → Type 0
Pairs R [] = Unit {0}
Pairs R (x ∷ xs) = All (R x) xs × Pairs R xs

-- by their numbers, counted from one on
abbrev pub AllFrom : {X : Type 0} → (ℕ → X → Type 0) → ℕ → List X → Type 0
AllFrom P a [] = Unit {0}
AllFrom P a (x ∷ xs) = P a x × AllFrom P (suc a) xs

pub all_so : {X : Type 0} {P Q : X → Type 0} → ((x : X) → P x → Q x) → (xs : List X) → All P xs → All Q xs
all_so f [] h = tt
all_so f (x ∷ xs) (p, h) = (f x p, all_so f xs h)

pub all_of : {X : Type 0} {P : X → Type 0} → ((x : X) → P x) → (xs : List X) → All P xs
all_of f [] = tt
all_of f (x ∷ xs) = (f x, all_of f xs)

pub all_and : {X : Type 0} {P Q R : X → Type 0} → ((x : X) → P x → Q x → R x) → (xs : List X) → All P xs → All Q xs → All R xs
all_and f [] h g = tt
all_and f (x ∷ xs) (p, h) (q, g) = (f x p q, all_and f xs h g)

pub all_joined : {X : Type 0} (P : X → Type 0) → (xs ys : List X) → All P xs → All P ys → All P (xs ++ ys)
all_joined P [] ys h g = g
all_joined P (x ∷ xs) ys (p, h) g = (p, all_joined P xs ys h g)

pub all_at : {X : Type 0} (P : X → Type 0) → (xs : List X) → All P xs → (k : ℕ) (x : X) → slice_get xs k ≡ Some x → P x
all_at P [] h k x e = absurd (cc)
all_at P (y ∷ xs) (p, h) zero x e = subst P (some_same e) p
all_at P (y ∷ xs) (p, h) (suc k) x e = all_at P xs h k x e

pub cross_of : {X Y : Type 0} {P : X → Type 0} {Q : Y → Type 0} {R : X → Y → Type 0} → ((x : X) (y : Y) → P x → Q y → R x y) → (xs : List X) (ys : List Y) → All P xs → All Q ys → Cross R xs ys
cross_of f [] ys h g = tt
cross_of f (x ∷ xs) ys (p, h) g = (all_so (λ y q. f x y p q) ys g, cross_of f xs ys h g)

pub cross_and : {X Y : Type 0} {P Q R : X → Y → Type 0} → ((x : X) (y : Y) → P x y → Q x y → R x y) → (xs : List X) (ys : List Y) → Cross P xs ys → Cross Q xs ys → Cross R xs ys
cross_and f [] ys h g = tt
cross_and f (x ∷ xs) ys (p, h) (q, g) = (all_and (f x) ys p q, cross_and f xs ys h g)

pub cross_joined : {X Y : Type 0} (R : X → Y → Type 0) → (xs : List X) (ys zs : List Y) → Cross R xs ys → Cross R xs zs → Cross R xs (ys ++ zs)
cross_joined R [] ys zs h g = tt
cross_joined R (x ∷ xs) ys zs (p, h) (q, g) = (all_joined (R x) ys zs p q, cross_joined R xs ys zs h g)

pub pairs_joined : {X : Type 0} (R : X → X → Type 0) → (xs ys : List X) → Pairs R xs → Pairs R ys → Cross R xs ys → Pairs R (xs ++ ys)
pairs_joined R [] ys h g c = g
pairs_joined R (x ∷ xs) ys (p, h) g (q, c) = (all_joined (R x) xs ys p q, pairs_joined R xs ys h g c)

pub pairs_at : {X : Type 0} (R : X → X → Type 0) → (xs : List X) → Pairs R xs → (j k : ℕ) (x y : X) → j < k → slice_get xs j ≡ Some x → slice_get xs k ≡ Some y → R x y
pairs_at R [] h j k x y l e f = absurd (cc)
pairs_at R (z ∷ xs) h zero zero x y l e f = absurd (omega (arith, l))
pairs_at R (z ∷ xs) (p, h) zero (suc k) x y l e f = subst (λ x. R x y) (some_same e) (all_at (R z) xs p k y f)
pairs_at R (z ∷ xs) h (suc j) zero x y l e f = absurd (omega (arith, l))
pairs_at R (z ∷ xs) (p, h) (suc j) (suc k) x y l e f = pairs_at R xs h j k x y (omega (arith, l)) e f

pub from_joined : {X : Type 0} (P : ℕ → X → Type 0) → (a : ℕ) (xs ys : List X) → AllFrom P a xs → AllFrom P (a + length xs) ys → AllFrom P a (xs ++ ys)
from_joined P a [] ys h g = subst (λ a. AllFrom P a ys) (omega arith) g
from_joined P a (x ∷ xs) ys (p, h) g = (p, from_joined P (suc a) xs ys h (subst (λ a. AllFrom P a ys) (omega arith) g))

pub from_of : {X : Type 0} {P : ℕ → X → Type 0} {Q : X → Type 0} → (a : ℕ) (xs : List X) → ((k : ℕ) (x : X) → a ≤ k → k < a + length xs → Q x → P k x) → All Q xs → AllFrom P a xs
from_of a [] f h = tt
from_of a (x ∷ xs) f (q, h) = (f a x (omega arith) (omega arith) q, from_of (suc a) xs (λ k x low high q. f k x (omega (arith, low)) (omega (arith, high)) q) h)

pub from_at : {X : Type 0} (P : ℕ → X → Type 0) → (a : ℕ) (xs : List X) → AllFrom P a xs → (k : ℕ) (x : X) → slice_get xs k ≡ Some x → P (a + k) x
from_at P a [] h k x e = absurd (cc)
from_at P a (y ∷ xs) (p, h) zero x e = subst (λ z. P (a + 0) z) (some_same e) (subst (λ a. P a y) (omega arith) p)
from_at P a (y ∷ xs) (p, h) (suc k) x e = subst (λ n. P n x) (omega arith) (from_at P (suc a) xs h k x e)
