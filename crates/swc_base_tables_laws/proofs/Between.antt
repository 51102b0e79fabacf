-- A list with more between its front and its back: where each element gets.
use Rattle.std.proofs.Common.{◌≡◌, ℕ, zero, suc, ◌⊎◌, inl, inr, ⊎_elim, Some, List, [], ◌∷◌, ◌++◌, refl, ap, ◌∙◌}
use Rattle.std.specs.List.{slice_get}

-- an index behind the list
abbrev pub behind : {X : Type 0} → List X → ℕ → ℕ
behind [] j = j
behind (x ∷ xs) j = suc (behind xs j)

-- where an element of the front or the back gets
abbrev pub past : {X : Type 0} → List X → List X → ℕ → ℕ
past [] more j = behind more j
past (x ∷ front) more zero = zero
past (x ∷ front) more (suc j) = suc (past front more j)

suc_same : (i j : ℕ) → suc i ≡ suc j → i ≡ j
suc_same i j e = cc

module _ {X : Type 0} where
  behind_at : (xs ys : List X) (j : ℕ) → slice_get (xs ++ ys) (behind xs j) ≡ slice_get ys j
  behind_at [] ys j = refl
  behind_at (x ∷ xs) ys j = behind_at xs ys j

  behind_one : (xs : List X) (i j : ℕ) → behind xs i ≡ behind xs j → i ≡ j
  behind_one [] i j e = e
  behind_one (x ∷ xs) i j e = behind_one xs i j (suc_same (behind xs i) (behind xs j) e)

  front_at : (xs ys : List X) (j : ℕ) (c : X) → slice_get xs j ≡ Some c → slice_get (xs ++ ys) j ≡ Some c
  front_at [] ys j c e = absurd (cc)
  front_at (x ∷ xs) ys zero c e = e
  front_at (x ∷ xs) ys (suc j) c e = front_at xs ys j c e

  pub past_at : (front more back : List X) (j : ℕ) → slice_get (front ++ (more ++ back)) (past front more j) ≡ slice_get (front ++ back) j
  past_at [] more back j = behind_at more back j
  past_at (x ∷ front) more back zero = refl
  past_at (x ∷ front) more back (suc j) = past_at front more back j

  pub past_one : (front more : List X) (i j : ℕ) → past front more i ≡ past front more j → i ≡ j
  past_one [] more i j e = behind_one more i j e
  past_one (x ∷ front) more zero zero e = refl
  past_one (x ∷ front) more zero (suc j) e = absurd (cc)
  past_one (x ∷ front) more (suc i) zero e = absurd (cc)
  past_one (x ∷ front) more (suc i) (suc j) e = ap suc (past_one front more i j (suc_same (past front more i) (past front more j) e))

  -- what comes between
  pub between_at : (front more back : List X) (j : ℕ) (c : X) → slice_get more j ≡ Some c → slice_get (front ++ (more ++ back)) (behind front j) ≡ Some c
  between_at front more back j c e = behind_at front (more ++ back) j ∙ front_at more back j c e

  pub between_one : (front : List X) (i j : ℕ) → behind front i ≡ behind front j → i ≡ j
  between_one front i j e = behind_one front i j e

  -- an element of the whole is one of the two
  abbrev Origin : List X → List X → List X → ℕ → X → Type 0
  Origin front more back j c = ((i : ℕ) × (j ≡ past front more i) × (slice_get (front ++ back) i ≡ Some c)) ⊎ ((i : ℕ) × (j ≡ behind front i) × (slice_get more i ≡ Some c))

  origin_behind : (more back : List X) (j : ℕ) (c : X) → slice_get (more ++ back) j ≡ Some c → ((i : ℕ) × (j ≡ behind more i) × (slice_get back i ≡ Some c)) ⊎ (slice_get more j ≡ Some c)
  origin_behind [] back j c e = inl (j, refl, e)
  origin_behind (m ∷ more) back zero c e = inr e
  origin_behind (m ∷ more) back (suc j) c e = ⊎_elim
      (λ (a : (i : ℕ) × (j ≡ behind more i) × (slice_get back i ≡ Some c)). inl (a.0, ap suc a.1, a.2))
      (λ (a : slice_get more j ≡ Some c). inr a)
      (origin_behind more back j c e)

  pub origin : (front more back : List X) (j : ℕ) (c : X) → slice_get (front ++ (more ++ back)) j ≡ Some c → Origin front more back j c
  origin [] more back j c e = ⊎_elim inl (λ (a : slice_get more j ≡ Some c). inr (j, refl, a)) (origin_behind more back j c e)
  origin (x ∷ front) more back zero c e = inl (zero, refl, e)
  origin (x ∷ front) more back (suc j) c e = ⊎_elim
      (λ (a : (i : ℕ) × (j ≡ past front more i) × (slice_get (front ++ back) i ≡ Some c)). inl (suc a.0, ap suc a.1, a.2))
      (λ (a : (i : ℕ) × (j ≡ behind front i) × (slice_get more i ≡ Some c)). inr (a.0, ap suc a.1, a.2))
      (origin front more back j c e)
