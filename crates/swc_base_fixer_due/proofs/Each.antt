-- Loops that take the elements of a list out in turn, and put them back changed.
use Rattle.std.proofs.Common.{◌≡◌, ℕ, zero, suc, ◌+◌, ◌<◌, List, [], ◌∷◌, ◌++◌, length, map, take, drop, Some, slice_set, refl, sym, ap, ◌∙◌, arith, add-one}
use Rattle.std.specs.List.{slice_get}
use Rattle.swc_base_fixer_due.specs.Walk.{each_told}

done_at : {X : Type 0} (f : X → X) (xs : List X) (i : ℕ) (d x : X) → i < length xs → slice_get (map f (take i xs) ++ drop i xs) i ≡ Some x
    → slice_set (slice_set (map f (take i xs) ++ drop i xs) i d) i (f x) ≡ map f (take (suc i) xs) ++ drop (suc i) xs
done_at f [] i d x h g = absurd (omega arith)
done_at f (y ∷ xs) zero d x h g = cc
done_at f (y ∷ xs) (suc i) d x h g = ap (λ l. f y ∷ l) (done_at f xs i d x (omega arith) g)

-- an element taken out, and put back changed
pub put_back : {X : Type 0} (f : X → X) (xs ys zs ws : List X) (i : ℕ) (d x y : X) → i < length xs → ys ≡ map f (take i xs) ++ drop i xs → slice_get ys i ≡ Some x
    → zs ≡ slice_set ys i d → ws ≡ slice_set zs i y → y ≡ f x → ws ≡ map f (take (i + 1) xs) ++ drop (i + 1) xs
put_back f xs ys zs ws i d x y h was here out back new = back ∙ rw (out, new, was, add-one) (done_at f xs i d x h (rw (← was) here))

told_at : {X A : Type 0} (f : X → A → X) (g : ℕ → A) (xs : List X) (i : ℕ) (d x : X) → i < length xs → slice_get (each_told f g (take i xs) ++ drop i xs) i ≡ Some x
    → slice_set (slice_set (each_told f g (take i xs) ++ drop i xs) i d) i (f x (g i)) ≡ each_told f g (take (suc i) xs) ++ drop (suc i) xs
told_at f g [] i d x h e = absurd (omega arith)
told_at f g (y ∷ xs) zero d x h e = let same : y ≡ x = cc in ap (λ u. f u (g zero) ∷ xs) (sym same)
told_at f g (y ∷ xs) (suc i) d x h e = ap (λ l. f y (g zero) ∷ l) (told_at f (λ i. g (suc i)) xs i d x (omega arith) e)

-- the same, where each element is told something by where it stands
pub told_back : {X A : Type 0} (f : X → A → X) (g : ℕ → A) (xs ys zs ws : List X) (i : ℕ) (d x y : X) (a : A) → i < length xs → ys ≡ each_told f g (take i xs) ++ drop i xs → slice_get ys i ≡ Some x
    → zs ≡ slice_set ys i d → ws ≡ slice_set zs i y → a ≡ g i → y ≡ f x a → ws ≡ each_told f g (take (i + 1) xs) ++ drop (i + 1) xs
told_back f g xs ys zs ws i d x y a h was here out back at new = back ∙ rw (out, new, at, was, add-one) (told_at f g xs i d x h (rw (← was) here))

told_set_at : {X A : Type 0} (f : X → A → X) (g : ℕ → A) (xs : List X) (i : ℕ) (x : X) → i < length xs → slice_get (each_told f g (take i xs) ++ drop i xs) i ≡ Some x
    → slice_set (each_told f g (take i xs) ++ drop i xs) i (f x (g i)) ≡ each_told f g (take (suc i) xs) ++ drop (suc i) xs
told_set_at f g [] i x h e = absurd (omega arith)
told_set_at f g (y ∷ xs) zero x h e = let same : y ≡ x = cc in ap (λ u. f u (g zero) ∷ xs) (sym same)
told_set_at f g (y ∷ xs) (suc i) x h e = ap (λ l. f y (g zero) ∷ l) (told_set_at f (λ i. g (suc i)) xs i x (omega arith) e)

pub told_set : {X A : Type 0} (f : X → A → X) (g : ℕ → A) (xs ys : List X) (i : ℕ) (x y : X) (a : A) → i < length xs → ys ≡ each_told f g (take i xs) ++ drop i xs → slice_get ys i ≡ Some x
    → a ≡ g i → y ≡ f x a → slice_set ys i y ≡ each_told f g (take (i + 1) xs) ++ drop (i + 1) xs
told_set f g xs ys i x y a h was here at new = rw (new, at, was, add-one) (told_set_at f g xs i x h (rw (← was) here))

-- the next element is still that of the list
got_there : {X A : Type 0} (f : X → A → X) (g : ℕ → A) (xs : List X) (i : ℕ) → i < length xs → slice_get (each_told f g (take i xs) ++ drop i xs) i ≡ slice_get xs i
got_there f g [] i h = absurd (omega arith)
got_there f g (x ∷ xs) zero h = refl
got_there f g (x ∷ xs) (suc i) h = got_there f (λ i. g (suc i)) xs i (omega arith)

pub is_there : {X A : Type 0} (f : X → A → X) (g : ℕ → A) (xs ys : List X) (i : ℕ) (x : X) → i < length xs → ys ≡ each_told f g (take i xs) ++ drop i xs → slice_get ys i ≡ Some x → slice_get xs i ≡ Some x
is_there f g xs ys i x h was here = sym (got_there f g xs i h) ∙ rw (← was) here

left_there : {X A : Type 0} (f : X → A → X) (g : ℕ → A) (xs : List X) (i : ℕ) (x : X) → slice_get xs i ≡ Some x → f x (g i) ≡ x → each_told f g (take i xs) ++ drop i xs ≡ each_told f g (take (suc i) xs) ++ drop (suc i) xs
left_there f g [] i x h e = absurd (cc)
left_there f g (y ∷ xs) zero x h e = let same : y ≡ x = cc in rw same (ap (λ u. u ∷ xs) (sym e))
left_there f g (y ∷ xs) (suc i) x h e = ap (λ l. f y (g zero) ∷ l) (left_there f (λ i. g (suc i)) xs i x h e)

-- an element that is left where it is, since it stays as it is
pub told_left : {X A : Type 0} (f : X → A → X) (g : ℕ → A) (xs ys : List X) (i : ℕ) (x : X) → i < length xs → ys ≡ each_told f g (take i xs) ++ drop i xs → slice_get ys i ≡ Some x → f x (g i) ≡ x
    → ys ≡ each_told f g (take (i + 1) xs) ++ drop (i + 1) xs
told_left f g xs ys i x h was here stays = was ∙ rw add-one (left_there f g xs i x (is_there f g xs ys i x h was here) stays)
