-- What a walk over claims answers, one part after another.
use Rattle.std.proofs.Common.{◌≡◌, ◌≢◌, ℕ, ◌+◌, Bool, true, false, ◌||◌, IsTrue, ◌⊎◌, ◌↔◌, inl, inr, ⊎_elim, Some, List, [], ◌∷◌, length, refl, sym, ap, ◌∙◌, arith}
use Rattle.swc_tree_scoping.specs.Places.{Path}
use Rattle.swc_base_early_errors.specs.declared.claims.Claim.{Claim}
use Rattle.swc_base_early_errors.specs.declared.claims.ClaimedNames.{ClaimedNames}
use Rattle.swc_base_early_errors.specs.Claims.{Claims, Clash, Clashes, IsNoted, Twice, Walked, note_in}

-- with more claims there are no fewer clashes
pub more_clashes : (ss : List ClaimedNames) (P Q : Claims) → ((p : Path) (c : Claim) (x : List ℕ) → P p c x → Q p c x) → Clashes ss P → Clashes ss Q
more_clashes ss P Q f (inl m) = inl (record { path = m.path; old = m.old; claim = m.claim; name = m.name; noted = m.noted; claims = f m.path m.claim m.name m.claims; clash = m.clash })
more_clashes ss P Q f (inr t) = inr (record { path = t.path; other = t.other; first = t.first; second = t.second; name = t.name; one = f t.path t.first t.name t.one; two = f t.other t.second t.name t.two; apart = t.apart; clash = t.clash })

pub walked_alike : (b : Bool) (old new : List ClaimedNames) (n m : ℕ) (P Q : Claims) → n ≡ m → ((p : Path) (c : Claim) (x : List ℕ) → Q p c x ↔ P p c x) → Walked b old new n P → Walked b old new m Q
walked_alike true old new n m P Q e same h = more_clashes old P Q (λ p c x. (same p c x).1) h
walked_alike false old new n m P Q e same (size, notes, none) = (
  omega (arith, e, size),
  λ c x. (
    λ h. ⊎_elim inl (λ a. inr (a.0, (same a.0 c x).1 a.1)) ((notes c x).0 h),
    λ h. (notes c x).1 (⊎_elim inl (λ a. inr (a.0, (same a.0 c x).0 a.1)) h),
  ),
  λ h. none (more_clashes old Q P (λ p c x. (same p c x).0) h),
)

-- nothing is claimed
pub walked_none : (old : List ClaimedNames) (P : Claims) → ((p : Path) (c : Claim) (x : List ℕ) → P p c x → ⊥) → Walked false old old 0 P
walked_none old P none = (omega arith, λ c x. (λ h. inl h, λ h. ⊎_elim (λ a. a) (λ a. absurd (none a.0 c x a.1)) h), λ h. ⊎_elim (λ m. none m.path m.claim m.name m.claims) (λ t. none t.path t.first t.name t.one) h)

or_swapped : (a b : Bool) → IsTrue (a || b) → IsTrue (b || a)
or_swapped true true h = refl
or_swapped true false h = refl
or_swapped false true h = refl
or_swapped false false h = h

turned : (c d : Claim) → Clash c d → Clash d c
turned c d (e, h) = (sym e, or_swapped c.alone d.alone h)

-- the claims of two parts that have no path in common
module _ (old mid new : List ClaimedNames) (n m : ℕ) (P Q S : Claims) (first : Walked false old mid n P) (both : (p : Path) (c : Claim) (x : List ℕ) → S p c x ↔ (P p c x ⊎ Q p c x))
    (apart : (p q : Path) (c d : Claim) (x y : List ℕ) → P p c x → Q q d y → p ≢ q) where
  noted_either : (c : Claim) (x : List ℕ) → IsNoted mid c x → (k : Path) (d : Claim) → Q k d x → Clash c d → Clashes old S
  noted_either c x noted k d q clash = ⊎_elim
      (λ a. inl (record { path = k; old = c; claim = d; name = x; noted = a; claims = (both k d x).1 (inr q); clash = clash }))
      (λ a. inr (record { path = a.0; other = k; first = c; second = d; name = x; one = (both a.0 c x).1 (inl a.1); two = (both k d x).1 (inr q); apart = apart a.0 k c d x x a.1 q; clash = clash }))
      ((first.1 c x).0 noted)

  met : Clashes mid Q → Clashes old S
  met (inl k) = noted_either k.old k.name k.noted k.path k.claim k.claims k.clash
  met (inr t) = more_clashes old Q S (λ p c x a. (both p c x).1 (inr a)) (inr t)

  meets_neither : (Clashes mid Q → ⊥) → Clashes old S → ⊥
  meets_neither none (inl k) = ⊎_elim
      (λ a. first.2 (inl (record { path = k.path; old = k.old; claim = k.claim; name = k.name; noted = k.noted; claims = a; clash = k.clash })))
      (λ a. none (inl (record { path = k.path; old = k.old; claim = k.claim; name = k.name; noted = (first.1 k.old k.name).1 (inl k.noted); claims = a; clash = k.clash })))
      ((both k.path k.claim k.name).0 k.claims)
  meets_neither none (inr t) = ⊎_elim
      (λ a. ⊎_elim
      (λ b. first.2 (inr (record { path = t.path; other = t.other; first = t.first; second = t.second; name = t.name; one = a; two = b; apart = t.apart; clash = t.clash })))
      (λ b. none (inl (record { path = t.other; old = t.first; claim = t.second; name = t.name; noted = (first.1 t.first t.name).1 (inr (t.path, a)); claims = b; clash = t.clash })))
      ((both t.other t.second t.name).0 t.two))
      (λ a. ⊎_elim
      (λ b. none (inl (record { path = t.path; old = t.second; claim = t.first; name = t.name; noted = (first.1 t.second t.name).1 (inr (t.other, b)); claims = a; clash = turned t.first t.second t.clash })))
      (λ b. none (inr (record { path = t.path; other = t.other; first = t.first; second = t.second; name = t.name; one = a; two = b; apart = t.apart; clash = t.clash })))
      ((both t.other t.second t.name).0 t.two))
      ((both t.path t.first t.name).0 t.one)

  pub walked_both : (b : Bool) → Walked b mid new m Q → Walked b old new (n + m) S
  walked_both true h = met h
  walked_both false (size, notes, none) = (
    omega (arith, size, first.0),
    λ c x. (
      λ h. ⊎_elim (λ a. ⊎_elim inl (λ d. inr (d.0, (both d.0 c x).1 (inl d.1))) ((first.1 c x).0 a)) (λ a. inr (a.0, (both a.0 c x).1 (inr a.1))) ((notes c x).0 h),
      λ h. (notes c x).1 (⊎_elim (λ a. inl ((first.1 c x).1 (inl a))) (λ a. ⊎_elim (λ d. inl ((first.1 c x).1 (inr (a.0, d)))) (λ d. inr (a.0, d)) ((both a.0 c x).0 a.1)) h),
    ),
    meets_neither none,
  )

-- a table more, in which nothing is noted
pub walked_after : (b : Bool) (old mid new : List ClaimedNames) (n m : ℕ) (P : Claims) → length mid ≡ length old + 1 → ((k : ℕ) (x : List ℕ) → note_in mid k x ≡ note_in old k x) → m ≡ 1 + n → Walked b mid new n P → Walked b old new m P
walked_after true old mid new n m P one alike e (inl k) = inl (record { path = k.path; old = k.old; claim = k.claim; name = k.name; noted = sym (alike k.old.scope k.name) ∙ k.noted; claims = k.claims; clash = k.clash })
walked_after true old mid new n m P one alike e (inr t) = inr t
walked_after false old mid new n m P one alike e (size, notes, none) = (
  omega (arith, size, one, e),
  λ c x. (
    λ h. ⊎_elim (λ a. inl (sym (alike c.scope x) ∙ a)) inr ((notes c x).0 h),
    λ h. (notes c x).1 (⊎_elim (λ a. inl (alike c.scope x ∙ a)) inr h),
  ),
  λ h. none (⊎_elim (λ k. inl (record { path = k.path; old = k.old; claim = k.claim; name = k.name; noted = alike k.old.scope k.name ∙ k.noted; claims = k.claims; clash = k.clash })) inr h),
)

-- the claims of a child, by paths from its parent
abbrev pub Under : ℕ → Claims → Claims
Under i P p c x = (q : Path) × (p ≡ i ∷ q) × P q c x

lower_same : (i : ℕ) (p q : Path) → i ∷ p ≡ i ∷ q → p ≡ q
lower_same i p q e = cc

under_clash : (i : ℕ) (ss : List ClaimedNames) (P : Claims) → Clashes ss P ↔ Clashes ss (Under i P)
under_clash i ss P = (
  λ h. ⊎_elim (λ k. inl (record { path = i ∷ k.path; old = k.old; claim = k.claim; name = k.name; noted = k.noted; claims = (k.path, refl, k.claims); clash = k.clash }))
      (λ t. inr (record { path = i ∷ t.path; other = i ∷ t.other; first = t.first; second = t.second; name = t.name; one = (t.path, refl, t.one); two = (t.other, refl, t.two); apart = λ e. t.apart (lower_same i t.path t.other e); clash = t.clash })) h,
  λ h. ⊎_elim (λ k. inl (record { path = k.claims.0; old = k.old; claim = k.claim; name = k.name; noted = k.noted; claims = k.claims.2; clash = k.clash }))
      (λ t. inr (record { path = t.one.0; other = t.two.0; first = t.first; second = t.second; name = t.name; one = t.one.2; two = t.two.2; apart = λ e. t.apart (t.one.1 ∙ ap (λ q. i ∷ q) e ∙ sym t.two.1); clash = t.clash })) h,
)

pub walked_under : (i : ℕ) (b : Bool) (old new : List ClaimedNames) (n : ℕ) (P : Claims) → Walked b old new n P → Walked b old new n (Under i P)
walked_under i true old new n P h = (under_clash i old P).0 h
walked_under i false old new n P (size, notes, none) = (
  size,
  λ c x. (
    λ h. ⊎_elim inl (λ a. inr (i ∷ a.0, (a.0, refl, a.1))) ((notes c x).0 h),
    λ h. (notes c x).1 (⊎_elim inl (λ a. inr (a.1.0, a.1.2)) h),
  ),
  λ h. none ((under_clash i old P).1 h),
)

-- nothing was noted before
pub none_noted : (ss : List ClaimedNames) (P : Claims) → ss ≡ [] → Clashes ss P → Twice P
none_noted ss P none (inl k) = let gone : note_in [] k.old.scope k.name ≡ Some k.old.alone = ap (λ l. note_in l k.old.scope k.name) (sym none) ∙ k.noted in absurd (cc)
none_noted ss P none (inr t) = t

pub two_there : (b : Bool) (old new : List ClaimedNames) (n : ℕ) (P : Claims) → old ≡ [] → Walked b old new n P → IsTrue b ↔ Twice P
two_there true old new n P none h = (λ k. none_noted old P none h, λ t. refl)
two_there false old new n P none h = (λ k. absurd (cc), λ t. absurd (h.2 (inr t)))
