-- Loops that take the elements of a list out in turn.
use Rattle.std.proofs.Common.{◌≡◌, ℕ, zero, suc, ◌+◌, ◌<◌, List, [], ◌∷◌, ◌++◌, length, map, take, drop, Some, slice_set, Result, refl, sym, ap, ◌∙◌, subst, arith, add-one, append_assoc}
use Rattle.std.specs.Prelude.{OnOk}
use Rattle.std.specs.List.{slice_get, flat_map}
use Rattle.std.proofs.lemmas.List.{append-nil}

-- a list of which the first elements are taken out
abbrev pub from : {X : Type 0} → X → ℕ → List X → List X
from gone i xs = map (λ _. gone) (take i xs) ++ drop i xs

taken_at : {X : Type 0} (gone : X) (xs : List X) (i : ℕ) (e : X) → i < length xs → slice_get (from gone i xs) i ≡ Some e
    → (slice_get xs i ≡ Some e) × (slice_set (from gone i xs) i gone ≡ from gone (suc i) xs)
taken_at gone [] i e h g = absurd (omega arith)
taken_at gone (x ∷ xs) zero e h g = (cc, cc)
taken_at gone (x ∷ xs) (suc i) e h g = let rest = taken_at gone xs i e (omega arith) g in (rest.0, ap (λ ys. gone ∷ ys) rest.1)

pieces_at : {X Y : Type 0} (f : X → List Y) (xs : List X) (i : ℕ) (e : X) → slice_get xs i ≡ Some e → flat_map f (take (suc i) xs) ≡ flat_map f (take i xs) ++ f e
pieces_at f [] i e g = absurd (cc)
pieces_at f (x ∷ xs) zero e g = let same : x ≡ e = cc in rw (same, append-nil (f e)) refl
pieces_at f (x ∷ xs) (suc i) e g = ap (λ ys. f x ++ ys) (pieces_at f xs i e g) ∙ sym (append_assoc (f x) (flat_map f (take i xs)) (f e))

pub taken : {X : Type 0} (gone : X) (xs ys zs : List X) (i : ℕ) (e : X) → i < length xs → ys ≡ from gone i xs → slice_get ys i ≡ Some e → zs ≡ slice_set ys i gone
    → zs ≡ from gone (i + 1) xs
taken gone xs ys zs i e h s g z = rw (z, s, add-one) ((taken_at gone xs i e h (rw (← s) g)).1)

pub one_more : {X Y : Type 0} (f : X → List Y) (gone : X) (xs ys : List X) (i : ℕ) (e : X) → i < length xs → ys ≡ from gone i xs → slice_get ys i ≡ Some e
    → flat_map f (take (i + 1) xs) ≡ flat_map f (take i xs) ++ f e
one_more f gone xs ys i e h s g = rw add-one (pieces_at f xs i e ((taken_at gone xs i e h (rw (← s) g)).0))

-- what was added, with one piece more
pub added : {X : Type 0} (now before all pieces piece more : List X) → now ≡ before ++ piece → before ≡ all ++ pieces → more ≡ pieces ++ piece → now ≡ all ++ more
added now before all pieces piece more a b c = rw (a, b, c) (append_assoc all pieces piece)

-- the same, where it comes from a call that may be refused and is said in other words
pub added_as : {X T E : Type 0} (r : Result T E) (now all a b : List X) → a ≡ b → OnOk r (now ≡ all ++ a) → OnOk r (now ≡ all ++ b)
added_as r now all a b e h = subst (λ ps. OnOk r (now ≡ all ++ ps)) e h
