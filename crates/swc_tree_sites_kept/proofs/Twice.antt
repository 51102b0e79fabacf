-- Two bindings of a list, at two places of it.
use Rattle.std.proofs.Common.{◌≡◌, ◌≢◌, ℕ, zero, suc, Bool, true, false, ◌&&◌, ◌⊎◌, inl, inr, ⊎_elim, Some, List, [], ◌∷◌, ◌++◌, refl, sym, ap, ◌∙◌, subst, cond}
use Rattle.std.specs.List.{filter, slice_get}
use Rattle.swc_tree_scoping.specs.declared.places.View.{View}
use Rattle.swc_tree_sites.specs.Sites.{Binding, Sites, joined, pending_where}
use Rattle.swc_tree_sites.specs.Smaller.{In}
use Rattle.swc_tree_sites.proofs.Loose.{in_cases, in_left, in_right}

abbrev pub Twice : {X : Type 0} → X → X → List X → Type 0
Twice b c [] = ⊥
Twice b c (x ∷ xs) = ((x ≡ b) × In c xs) ⊎ (((x ≡ c) × In b xs) ⊎ Twice b c xs)

twice_left : {X : Type 0} (b c : X) (xs ys : List X) → Twice b c xs → Twice b c (xs ++ ys)
twice_left b c [] ys h = absurd h
twice_left b c (x ∷ xs) ys (inl h) = inl (h.0, in_left c xs ys h.1)
twice_left b c (x ∷ xs) ys (inr (inl h)) = inr (inl (h.0, in_left b xs ys h.1))
twice_left b c (x ∷ xs) ys (inr (inr h)) = inr (inr (twice_left b c xs ys h))

twice_right : {X : Type 0} (b c : X) (xs ys : List X) → Twice b c ys → Twice b c (xs ++ ys)
twice_right b c [] ys h = h
twice_right b c (x ∷ xs) ys h = inr (inr (twice_right b c xs ys h))

twice_across : {X : Type 0} (b c : X) (xs ys : List X) → In b xs → In c ys → Twice b c (xs ++ ys)
twice_across b c [] ys h k = absurd h
twice_across b c (x ∷ xs) ys (inl e) k = inl (e, in_right c xs ys k)
twice_across b c (x ∷ xs) ys (inr h) k = inr (inr (twice_across b c xs ys h k))

twice_turned : {X : Type 0} (b c : X) (xs ys : List X) → In c xs → In b ys → Twice b c (xs ++ ys)
twice_turned b c [] ys h k = absurd h
twice_turned b c (x ∷ xs) ys (inl e) k = inr (inl (e, in_right b xs ys k))
twice_turned b c (x ∷ xs) ys (inr h) k = inr (inr (twice_turned b c xs ys h k))

-- where the two stand in two lists
abbrev Parted : {X : Type 0} → X → X → List X → List X → Type 0
Parted b c xs ys = Twice b c xs ⊎ (Twice b c ys ⊎ ((In b xs × In c ys) ⊎ (In c xs × In b ys)))

twice_cases : {X : Type 0} (b c : X) (xs ys : List X) → Twice b c (xs ++ ys) → Parted b c xs ys
twice_cases b c [] ys h = inr (inl h)
twice_cases b c (x ∷ xs) ys (inl h) = ⊎_elim (λ k. inl (inl (h.0, k))) (λ k. inr (inr (inl (inl h.0, k)))) (in_cases c xs ys h.1)
twice_cases b c (x ∷ xs) ys (inr (inl h)) = ⊎_elim (λ k. inl (inr (inl (h.0, k)))) (λ k. inr (inr (inr (inl h.0, k)))) (in_cases b xs ys h.1)
twice_cases b c (x ∷ xs) ys (inr (inr h)) = shift (twice_cases b c xs ys h)
  where
    shift : Parted b c xs ys → Parted b c (x ∷ xs) ys
    shift (inl k) = inl (inr (inr k))
    shift (inr (inl k)) = inr (inl k)
    shift (inr (inr (inl (k, l)))) = inr (inr (inl (inr k, l)))
    shift (inr (inr (inr (k, l)))) = inr (inr (inr (inr k, l)))

-- in a list where a test is passed
in_filter : {X : Type 0} (f : X → Bool) (x : X) (xs : List X) → In x (filter f xs) → In x xs × (f x ≡ true)
in_filter f x [] h = absurd h
in_filter f x (y ∷ ys) h = next (f y) refl h (in_filter f x ys)
  where
    next : (b : Bool) → f y ≡ b → In x (cond b (y ∷ filter f ys) (filter f ys)) → (In x (filter f ys) → In x ys × (f x ≡ true)) → ((y ≡ x) ⊎ In x ys) × (f x ≡ true)
    next true e (inl g) rest = (inl g, subst (λ z. f z ≡ true) g e)
    next true e (inr g) rest = let (a, b) = rest g in (inr a, b)
    next false e g rest = let (a, b) = rest g in (inr a, b)

filter_in : {X : Type 0} (f : X → Bool) (x : X) (xs : List X) → In x xs → f x ≡ true → In x (filter f xs)
filter_in f x [] h e = absurd h
filter_in f x (y ∷ ys) h e = next (f y) refl h (λ g. filter_in f x ys g e)
  where
    next : (b : Bool) → f y ≡ b → (y ≡ x) ⊎ In x ys → (In x ys → In x (filter f ys)) → In x (cond b (y ∷ filter f ys) (filter f ys))
    next true g (inl h) rest = inl h
    next true g (inr h) rest = inr (rest h)
    next false g (inl h) rest = let z : f x ≡ false = subst (λ z. f z ≡ false) h g in absurd (cc)
    next false g (inr h) rest = rest h

twice_filter : {X : Type 0} (f : X → Bool) (b c : X) (xs : List X) → Twice b c (filter f xs) → Twice b c xs × (f b ≡ true) × (f c ≡ true)
twice_filter f b c [] h = absurd h
twice_filter f b c (x ∷ xs) h = next (f x) refl h (twice_filter f b c xs)
  where
    next : (z : Bool) → f x ≡ z → Twice b c (cond z (x ∷ filter f xs) (filter f xs)) → (Twice b c (filter f xs) → Twice b c xs × (f b ≡ true) × (f c ≡ true)) → Twice b c (x ∷ xs) × (f b ≡ true) × (f c ≡ true)
    next true e (inl g) rest = let (i, z) = in_filter f c xs g.1 in (inl (g.0, i), subst (λ z. f z ≡ true) g.0 e, z)
    next true e (inr (inl g)) rest = let (i, z) = in_filter f b xs g.1 in (inr (inl (g.0, i)), z, subst (λ z. f z ≡ true) g.0 e)
    next true e (inr (inr g)) rest = let (k, y, z) = rest g in (inr (inr k), y, z)
    next false e g rest = let (k, y, z) = rest g in (inr (inr k), y, z)

filter_twice : {X : Type 0} (f : X → Bool) (b c : X) (xs : List X) → Twice b c xs → f b ≡ true → f c ≡ true → Twice b c (filter f xs)
filter_twice f b c [] h y z = absurd h
filter_twice f b c (x ∷ xs) h y z = next (f x) refl h (λ g. filter_twice f b c xs g y z)
  where
    next : (w : Bool) → f x ≡ w → Twice b c (x ∷ xs) → (Twice b c xs → Twice b c (filter f xs)) → Twice b c (cond w (x ∷ filter f xs) (filter f xs))
    next true e (inl g) rest = inl (g.0, filter_in f c xs g.1 z)
    next true e (inr (inl g)) rest = inr (inl (g.0, filter_in f b xs g.1 y))
    next true e (inr (inr g)) rest = inr (inr (rest g))
    next false e (inl g) rest = let k : f b ≡ false = subst (λ z. f z ≡ false) g.0 e in absurd (cc)
    next false e (inr (inl g)) rest = let k : f c ≡ false = subst (λ z. f z ≡ false) g.0 e in absurd (cc)
    next false e (inr (inr g)) rest = rest g

-- the pending bindings of children that pass a test, which goes by the child too
abbrev pub merged : (ℕ → Binding → Bool) → List Sites → List Binding
merged ok [] = []
merged ok (a ∷ cs) = filter (ok zero) a.pending ++ merged (λ i. ok (suc i)) cs

filter_append : {X : Type 0} (f : X → Bool) (xs ys : List X) → filter f (xs ++ ys) ≡ filter f xs ++ filter f ys
filter_append f [] ys = refl
filter_append f (x ∷ xs) ys = next (f x) (filter_append f xs ys)
  where
    next : (b : Bool) → filter f (xs ++ ys) ≡ filter f xs ++ filter f ys → cond b (x ∷ filter f (xs ++ ys)) (filter f (xs ++ ys)) ≡ cond b (x ∷ filter f xs) (filter f xs) ++ filter f ys
    next true e = ap (λ l. x ∷ l) e
    next false e = e

filter_all : {X : Type 0} (xs : List X) → filter (λ x. true) xs ≡ xs
filter_all [] = refl
filter_all (x ∷ xs) = ap (λ l. x ∷ l) (filter_all xs)

filter_none : {X : Type 0} (xs : List X) → filter (λ x. false) xs ≡ []
filter_none [] = refl
filter_none (x ∷ xs) = filter_none xs

pub merged_where : (f : View → Bool) (g : Binding → Bool) (views : ℕ → View) (cs : List Sites) → filter g (pending_where f views cs) ≡ merged (λ j b. f (views j) && g b) cs
merged_where f g views [] = refl
merged_where f g views (a ∷ cs) =
    filter_append g (cond (f (views zero)) a.pending []) (pending_where f (λ i. views (suc i)) cs)
    ∙ ap (λ l. l ++ filter g (pending_where f (λ i. views (suc i)) cs)) (one (f (views zero)))
    ∙ ap (λ l. filter (λ b. f (views zero) && g b) a.pending ++ l) (merged_where f g (λ i. views (suc i)) cs)
  where
    one : (z : Bool) → filter g (cond z a.pending []) ≡ filter (λ b. z && g b) a.pending
    one true = refl
    one false = sym (filter_none a.pending)

pub merged_views : (f : View → Bool) (views : ℕ → View) (cs : List Sites) → pending_where f views cs ≡ merged (λ j b. f (views j)) cs
merged_views f views [] = refl
merged_views f views (a ∷ cs) =
    ap (λ l. l ++ pending_where f (λ i. views (suc i)) cs) (one (f (views zero))) ∙ ap (λ l. filter (λ b. f (views zero)) a.pending ++ l) (merged_views f (λ i. views (suc i)) cs)
  where
    one : (z : Bool) → cond z a.pending [] ≡ filter (λ b. z) a.pending
    one true = sym (filter_all a.pending)
    one false = sym (filter_none a.pending)

pub merged_joined : (cs : List Sites) → (joined cs).pending ≡ merged (λ j b. true) cs
merged_joined [] = refl
merged_joined (a ∷ cs) = ap (λ l. l ++ (joined cs).pending) (sym (filter_all a.pending)) ∙ ap (λ l. filter (λ b. true) a.pending ++ l) (merged_joined cs)

-- which child has it
pub record Once (Ok : ℕ → Binding → Type 0) (b : Binding) (cs : List Sites) : Type 0 where
  pub child : ℕ
  pub of : Sites
  pub there : slice_get cs child ≡ Some of
  pub within : In b of.pending
  pub fine : Ok child b

-- one child has both, or two have one each
pub record Together (Ok : ℕ → Binding → Type 0) (b c : Binding) (cs : List Sites) : Type 0 where
  pub child : ℕ
  pub of : Sites
  pub there : slice_get cs child ≡ Some of
  pub within : Twice b c of.pending
  pub first_fine : Ok child b
  pub second_fine : Ok child c

pub record Separate (Ok : ℕ → Binding → Type 0) (b c : Binding) (cs : List Sites) : Type 0 where
  pub first : Once Ok b cs
  pub second : Once Ok c cs
  pub different : first.child ≢ second.child

abbrev pub Split : (ℕ → Binding → Type 0) → Binding → Binding → List Sites → Type 0
Split Ok b c cs = Together Ok b c cs ⊎ Separate Ok b c cs

abbrev pub Passes : (ℕ → Binding → Bool) → ℕ → Binding → Type 0
Passes ok j b = ok j b ≡ true

no_suc : (j : ℕ) → zero ≡ suc j → ⊥
no_suc j e = absurd (cc)

less : (i j : ℕ) → suc i ≡ suc j → i ≡ j
less i j e = cc

pub once_from : (ok : ℕ → Binding → Bool) (b : Binding) (cs : List Sites) → In b (merged ok cs) → Once (Passes ok) b cs
once_from ok b [] h = absurd h
once_from ok b (a ∷ cs) h = ⊎_elim
    (λ g. let (i, e) = in_filter (ok zero) b a.pending g in record { child = zero; of = a; there = refl; within = i; fine = e })
    (λ g. let o = once_from (λ i. ok (suc i)) b cs g in record { child = suc o.child; of = o.of; there = o.there; within = o.within; fine = o.fine })
    (in_cases b (filter (ok zero) a.pending) (merged (λ i. ok (suc i)) cs) h)

in_child : (ok : ℕ → Binding → Bool) (b : Binding) (cs : List Sites) (j : ℕ) (a : Sites) → slice_get cs j ≡ Some a → In b a.pending → ok j b ≡ true → In b (merged ok cs)
in_child ok b [] j a h i e = absurd (cc)
in_child ok b (d ∷ cs) zero a h i e =
    let same : d ≡ a = cc in in_left b (filter (ok zero) d.pending) (merged (λ i. ok (suc i)) cs) (filter_in (ok zero) b d.pending (subst (λ (s : Sites). In b s.pending) (sym same) i) e)
in_child ok b (d ∷ cs) (suc j) a h i e = in_right b (filter (ok zero) d.pending) (merged (λ i. ok (suc i)) cs) (in_child (λ i. ok (suc i)) b cs j a h i e)

pub once_to : (ok : ℕ → Binding → Bool) (b : Binding) (cs : List Sites) → Once (Passes ok) b cs → In b (merged ok cs)
once_to ok b cs o = in_child ok b cs o.child o.of o.there o.within o.fine

pub split_from : (ok : ℕ → Binding → Bool) (b c : Binding) (cs : List Sites) → Twice b c (merged ok cs) → Split (Passes ok) b c cs
split_from ok b c [] h = absurd h
split_from ok b c (a ∷ cs) h = at (twice_cases b c (filter (ok zero) a.pending) (merged (λ i. ok (suc i)) cs) h) (split_from (λ i. ok (suc i)) b c cs)
  where
    at : Parted b c (filter (ok zero) a.pending) (merged (λ i. ok (suc i)) cs) → (Twice b c (merged (λ i. ok (suc i)) cs) → Split (Passes (λ i. ok (suc i))) b c cs) → Split (Passes ok) b c (a ∷ cs)
    at (inl g) later = let (k, y, z) = twice_filter (ok zero) b c a.pending g in inl (record { child = zero; of = a; there = refl; within = k; first_fine = y; second_fine = z })
    at (inr (inl g)) later = ⊎_elim
        (λ (s : Together (Passes (λ i. ok (suc i))) b c cs). inl (record { child = suc s.child; of = s.of; there = s.there; within = s.within; first_fine = s.first_fine; second_fine = s.second_fine }))
        (λ (s : Separate (Passes (λ i. ok (suc i))) b c cs). inr (record {
          first = record { child = suc s.first.child; of = s.first.of; there = s.first.there; within = s.first.within; fine = s.first.fine };
          second = record { child = suc s.second.child; of = s.second.of; there = s.second.there; within = s.second.within; fine = s.second.fine };
          different = λ e. s.different (less s.first.child s.second.child e);
        }))
        (later g)
    at (inr (inr (inl (g, k)))) later =
        let (i, e) = in_filter (ok zero) b a.pending g in
        let o = once_from (λ i. ok (suc i)) c cs k in inr (record {
          first = record { child = zero; of = a; there = refl; within = i; fine = e };
          second = record { child = suc o.child; of = o.of; there = o.there; within = o.within; fine = o.fine };
          different = no_suc o.child;
        })
    at (inr (inr (inr (g, k)))) later =
        let (i, e) = in_filter (ok zero) c a.pending g in
        let o = once_from (λ i. ok (suc i)) b cs k in inr (record {
          first = record { child = suc o.child; of = o.of; there = o.there; within = o.within; fine = o.fine };
          second = record { child = zero; of = a; there = refl; within = i; fine = e };
          different = λ z. no_suc o.child (sym z);
        })

together_to : (ok : ℕ → Binding → Bool) (b c : Binding) (cs : List Sites) (j : ℕ) (a : Sites) → slice_get cs j ≡ Some a → Twice b c a.pending → ok j b ≡ true → ok j c ≡ true → Twice b c (merged ok cs)
together_to ok b c [] j a h g y z = absurd (cc)
together_to ok b c (d ∷ cs) zero a h g y z =
    let same : d ≡ a = cc in
    twice_left b c (filter (ok zero) d.pending) (merged (λ i. ok (suc i)) cs) (filter_twice (ok zero) b c d.pending (subst (λ (s : Sites). Twice b c s.pending) (sym same) g) y z)
together_to ok b c (d ∷ cs) (suc j) a h g y z = twice_right b c (filter (ok zero) d.pending) (merged (λ i. ok (suc i)) cs) (together_to (λ i. ok (suc i)) b c cs j a h g y z)

separate_to : (ok : ℕ → Binding → Bool) (b c : Binding) (cs : List Sites) (j k : ℕ) (a e : Sites) → j ≢ k → slice_get cs j ≡ Some a → slice_get cs k ≡ Some e → In b a.pending → In c e.pending → ok j b ≡ true → ok k c ≡ true
    → Twice b c (merged ok cs)
separate_to ok b c [] j k a e n h g x y u v = absurd (cc)
separate_to ok b c (d ∷ cs) zero zero a e n h g x y u v = absurd (n refl)
separate_to ok b c (d ∷ cs) zero (suc k) a e n h g x y u v =
    let same : d ≡ a = cc in
    twice_across b c (filter (ok zero) d.pending) (merged (λ i. ok (suc i)) cs) (filter_in (ok zero) b d.pending (subst (λ (s : Sites). In b s.pending) (sym same) x) u) (in_child (λ i. ok (suc i)) c cs k e g y v)
separate_to ok b c (d ∷ cs) (suc j) zero a e n h g x y u v =
    let same : d ≡ e = cc in
    twice_turned b c (filter (ok zero) d.pending) (merged (λ i. ok (suc i)) cs) (filter_in (ok zero) c d.pending (subst (λ (s : Sites). In c s.pending) (sym same) y) v) (in_child (λ i. ok (suc i)) b cs j a h x u)
separate_to ok b c (d ∷ cs) (suc j) (suc k) a e n h g x y u v =
    twice_right b c (filter (ok zero) d.pending) (merged (λ i. ok (suc i)) cs) (separate_to (λ i. ok (suc i)) b c cs j k a e (λ z. n (ap suc z)) h g x y u v)

pub split_to : (ok : ℕ → Binding → Bool) (b c : Binding) (cs : List Sites) → Split (Passes ok) b c cs → Twice b c (merged ok cs)
split_to ok b c cs (inl s) = together_to ok b c cs s.child s.of s.there s.within s.first_fine s.second_fine
split_to ok b c cs (inr s) = separate_to ok b c cs s.first.child s.second.child s.first.of s.second.of s.different s.first.there s.second.there s.first.within s.second.within s.first.fine s.second.fine

pub split_map : (Ok As : ℕ → Binding → Type 0) (b c : Binding) (cs : List Sites) → ((j : ℕ) (x : Binding) → Ok j x → As j x) → Split Ok b c cs → Split As b c cs
split_map Ok As b c cs f (inl s) = inl (record { child = s.child; of = s.of; there = s.there; within = s.within; first_fine = f s.child b s.first_fine; second_fine = f s.child c s.second_fine })
split_map Ok As b c cs f (inr s) = inr (record {
  first = record { child = s.first.child; of = s.first.of; there = s.first.there; within = s.first.within; fine = f s.first.child b s.first.fine };
  second = record { child = s.second.child; of = s.second.of; there = s.second.there; within = s.second.within; fine = f s.second.child c s.second.fine };
  different = s.different;
})

-- two tests of which no child passes both
module _ (ok also : ℕ → Binding → Bool) (never : (j : ℕ) (x y : Binding) → ok j x ≡ true → also j y ≡ true → ⊥) (b c : Binding) (cs : List Sites) where
  abbrev pub Either : ℕ → Binding → Type 0
  Either j x = (ok j x ≡ true) ⊎ (also j x ≡ true)

  pub halves_from : Twice b c (merged ok cs ++ merged also cs) → Split Either b c cs
  halves_from h = at (twice_cases b c (merged ok cs) (merged also cs) h)
    where
      at : Parted b c (merged ok cs) (merged also cs) → Split Either b c cs
      at (inl g) = split_map (Passes ok) Either b c cs (λ j x e. inl e) (split_from ok b c cs g)
      at (inr (inl g)) = split_map (Passes also) Either b c cs (λ j x e. inr e) (split_from also b c cs g)
      at (inr (inr (inl (g, k)))) =
          let o = once_from ok b cs g in
          let p = once_from also c cs k in inr (record {
            first = record { child = o.child; of = o.of; there = o.there; within = o.within; fine = inl o.fine };
            second = record { child = p.child; of = p.of; there = p.there; within = p.within; fine = inr p.fine };
            different = λ e. never p.child b c (subst (λ j. ok j b ≡ true) e o.fine) p.fine;
          })
      at (inr (inr (inr (g, k)))) =
          let o = once_from ok c cs g in
          let p = once_from also b cs k in inr (record {
            first = record { child = p.child; of = p.of; there = p.there; within = p.within; fine = inr p.fine };
            second = record { child = o.child; of = o.of; there = o.there; within = o.within; fine = inl o.fine };
            different = λ e. never p.child c b (subst (λ j. ok j c ≡ true) (sym e) o.fine) p.fine;
          })

  pub halves_to : Split Either b c cs → Twice b c (merged ok cs ++ merged also cs)
  halves_to (inl s) = at s.first_fine s.second_fine
    where
      at : Either s.child b → Either s.child c → Twice b c (merged ok cs ++ merged also cs)
      at (inl x) (inl y) = twice_left b c (merged ok cs) (merged also cs) (together_to ok b c cs s.child s.of s.there s.within x y)
      at (inr x) (inr y) = twice_right b c (merged ok cs) (merged also cs) (together_to also b c cs s.child s.of s.there s.within x y)
      at (inl x) (inr y) = absurd (never s.child b c x y)
      at (inr x) (inl y) = absurd (never s.child c b y x)
  halves_to (inr s) = at s.first.fine s.second.fine
    where
      at : Either s.first.child b → Either s.second.child c → Twice b c (merged ok cs ++ merged also cs)
      at (inl x) (inl y) = twice_left b c (merged ok cs) (merged also cs) (separate_to ok b c cs s.first.child s.second.child s.first.of s.second.of s.different s.first.there s.second.there s.first.within s.second.within x y)
      at (inr x) (inr y) = twice_right b c (merged ok cs) (merged also cs) (separate_to also b c cs s.first.child s.second.child s.first.of s.second.of s.different s.first.there s.second.there s.first.within s.second.within x y)
      at (inl x) (inr y) = twice_across b c (merged ok cs) (merged also cs) (in_child ok b cs s.first.child s.first.of s.first.there s.first.within x) (in_child also c cs s.second.child s.second.of s.second.there s.second.within y)
      at (inr x) (inl y) = twice_turned b c (merged ok cs) (merged also cs) (in_child ok c cs s.second.child s.second.of s.second.there s.second.within y) (in_child also b cs s.first.child s.first.of s.first.there s.first.within x)
