-- What a list contains that another gives by a test or a map.
use Rattle.std.proofs.Common.{◌≡◌, ℕ, zero, suc, Bool, true, false, ◌⊎◌, inl, inr, List, [], ◌∷◌, Contains, map, refl, ap, subst, arith, cond}
use Rattle.std.specs.List.{filter}
use Rattle.swc_tree_renaming.proofs.Core.{cases_in, head_in, none_in, tail_in}

pub here_in : {X : Type 0} (y x : X) (xs : List X) → y ≡ x → Contains (y ∷ xs) x
here_in y x xs same = subst (λ x. Contains (y ∷ xs) x) same (head_in y xs)

pub filtered_from : {X : Type 0} (f : X → Bool) (xs : List X) (x : X) → Contains (filter f xs) x → Contains xs x × (f x ≡ true)
filtered_from f [] x h = absurd (none_in x h)
filtered_from f (y ∷ ys) x h = at (f y) refl h (λ g. filtered_from f ys x g)
  where
    by : f y ≡ true → (y ≡ x) ⊎ Contains (filter f ys) x → (Contains (filter f ys) x → Contains ys x × (f x ≡ true)) → Contains (y ∷ ys) x × (f x ≡ true)
    by e (inl same) rest = (here_in y x ys same, subst (λ z. f z ≡ true) same e)
    by e (inr later) rest = let (a, b) = rest later in (tail_in y x ys a, b)

    at : (b : Bool) → f y ≡ b → Contains (cond b (y ∷ filter f ys) (filter f ys)) x → (Contains (filter f ys) x → Contains ys x × (f x ≡ true)) → Contains (y ∷ ys) x × (f x ≡ true)
    at true e g rest = by e (cases_in y x (filter f ys) g) rest
    at false e g rest = let (a, b) = rest g in (tail_in y x ys a, b)

pub filtered_to : {X : Type 0} (f : X → Bool) (xs : List X) (x : X) → Contains xs x → f x ≡ true → Contains (filter f xs) x
filtered_to f [] x h e = absurd (none_in x h)
filtered_to f (y ∷ ys) x h e = at (f y) refl (cases_in y x ys h) (λ g. filtered_to f ys x g e)
  where
    at : (b : Bool) → f y ≡ b → (y ≡ x) ⊎ Contains ys x → (Contains ys x → Contains (filter f ys) x) → Contains (cond b (y ∷ filter f ys) (filter f ys)) x
    at true g (inl same) rest = here_in y x (filter f ys) same
    at true g (inr later) rest = tail_in y x (filter f ys) (rest later)
    at false g (inl same) rest = let z : f x ≡ false = subst (λ z. f z ≡ false) same g in absurd (cc)
    at false g (inr later) rest = rest later

pub mapped_from : {X Y : Type 0} (f : X → Y) (xs : List X) (y : Y) → Contains (map f xs) y → (x : X) × Contains xs x × (f x ≡ y)
mapped_from f [] y (n, l, e) = absurd (omega arith)
mapped_from f (x ∷ xs) y (zero, l, e) = (x, (0, (omega arith), refl), e)
mapped_from f (x ∷ xs) y (suc n, l, e) = let (z, (m, k, s), g) = mapped_from f xs y (n, (omega arith), e) in (z, (suc m, (omega arith), s), g)

pub mapped_to : {X Y : Type 0} (f : X → Y) (xs : List X) (x : X) → Contains xs x → Contains (map f xs) (f x)
mapped_to f [] x (n, l, e) = absurd (omega arith)
mapped_to f (y ∷ ys) x (zero, l, e) = (0, (omega arith), ap f e)
mapped_to f (y ∷ ys) x (suc n, l, e) = let (m, k, s) = mapped_to f ys x (n, (omega arith), e) in (suc m, (omega arith), s)
