-- Items of lists, by their numbers.
use Rattle.std.proofs.Common.{◌≡◌, ℕ, zero, suc, ◌<◌, Option, Some, List, [], ◌∷◌, ◌++◌, length, map, Contains, refl, sym, ap, ◌∙◌, arith}
use Rattle.std.specs.List.{slice_get}
use Rattle.std.proofs.lemmas.Option.{get_or_from_slice_get, slice_get-get_or, slice_get_within}

pub some_same : {X : Type 0} {a b : X} → Some a ≡ Some b → a ≡ b
some_same h = cc

pub one_item : {X : Type 0} (o : Option X) (a b : X) → o ≡ Some a → o ≡ Some b → a ≡ b
one_item o a b h g = some_same (sym h ∙ g)

pub contained : {X : Type 0} (xs : List X) (i : ℕ) (x : X) → slice_get xs i ≡ Some x → Contains xs x
contained xs i x h = (i, slice_get_within xs i x h, get_or_from_slice_get xs i x x h)

pub numbered : {X : Type 0} (xs : List X) (x : X) → Contains xs x → (i : ℕ) × (slice_get xs i ≡ Some x)
numbered xs x (i, l, e) = (i, slice_get-get_or xs i x l ∙ ap (λ y. Some y) e)

-- an item within the length
pub item_there : {X : Type 0} (xs : List X) (i : ℕ) → i < length xs → (x : X) × (slice_get xs i ≡ Some x)
item_there [] i l = absurd (omega (arith, l))
item_there (x ∷ xs) zero l = (x, refl)
item_there (x ∷ xs) (suc i) l = item_there xs i (omega (arith, l))

-- one item more, at the end
pub still_there : {X : Type 0} (xs ys : List X) (i : ℕ) (x : X) → slice_get xs i ≡ Some x → slice_get (xs ++ ys) i ≡ Some x
still_there [] ys i x h = absurd (cc)
still_there (a ∷ xs) ys zero x h = h
still_there (a ∷ xs) ys (suc i) x h = still_there xs ys i x h

-- under a map
pub mapped : {X Y : Type 0} (f : X → Y) (xs : List X) (i : ℕ) (x : X) → slice_get xs i ≡ Some x → slice_get (map f xs) i ≡ Some (f x)
mapped f [] i x h = absurd (cc)
mapped f (a ∷ xs) zero x h = ap (λ x. Some (f x)) (some_same h)
mapped f (a ∷ xs) (suc i) x h = mapped f xs i x h

pub from_mapped : {X Y : Type 0} (f : X → Y) (xs : List X) (i : ℕ) (y : Y) → slice_get (map f xs) i ≡ Some y → (x : X) × (slice_get xs i ≡ Some x) × (f x ≡ y)
from_mapped f [] i y h = absurd (cc)
from_mapped f (a ∷ xs) zero y h = (a, refl, some_same h)
from_mapped f (a ∷ xs) (suc i) y h = from_mapped f xs i y h

pub unmapped : {X Y : Type 0} (f : X → Y) (xs : List X) (i : ℕ) (y : Y) → slice_get (map f xs) i ≡ Some y → (x : X) × (slice_get xs i ≡ Some x) × (f x ≡ y)
unmapped f [] i y h = absurd (cc)
unmapped f (x ∷ xs) zero y h = (x, refl, some_same h)
unmapped f (x ∷ xs) (suc i) y h = unmapped f xs i y h
