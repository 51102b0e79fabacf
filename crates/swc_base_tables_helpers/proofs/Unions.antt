-- What the union of two sets has.
use Rattle.std.proofs.Common.{Bool, true, false, ◌≡◌, ℕ, max, ◌⊎◌, inl, inr, ◌↔◌, ◌≤◌, arith}
use Rattle.std.specs.Int.{bit_at}
use Rattle.std.specs.Int.RustNames.{bit_or}
use Rattle.std.proofs.lemmas.Bool.{cases_lt}
use Rattle.std.proofs.lemmas.Nat.Bits.{bit_at_or}
use Rattle.swc_base_tables_helpers.specs.Sets.{Holds, Gains}

greater_cases : (a b : ℕ) → max a b ≡ 1 → (a ≡ 1) ⊎ (b ≡ 1)
greater_cases a b is = elim (cases_lt a b) [ inl below ↦ inr (omega arith) | inr above ↦ inl (omega arith) ]

bit_at-le : (a n : ℕ) → bit_at a n ≤ 1
bit_at-le a n = omega arith

greater_left : (a b : ℕ) → b ≤ 1 → a ≡ 1 → max a b ≡ 1
greater_left a b small is = omega arith

greater_right : (a b : ℕ) → a ≤ 1 → b ≡ 1 → max a b ≡ 1
greater_right a b small is = omega arith

pub Holds-union_cases : (a b n : ℕ) → Holds (bit_or a b) n → Holds a n ⊎ Holds b n
Holds-union_cases a b n has = greater_cases (bit_at a n) (bit_at b n) (rw (bit_at_or a b n) at has)

pub Holds-union_left : (a b n : ℕ) → Holds a n → Holds (bit_or a b) n
Holds-union_left a b n has = rw (bit_at_or a b n) (greater_left (bit_at a n) (bit_at b n) (bit_at-le b n) has)

pub Holds-union_right : (a b n : ℕ) → Holds b n → Holds (bit_or a b) n
Holds-union_right a b n has = rw (bit_at_or a b n) (greater_right (bit_at a n) (bit_at b n) (bit_at-le a n) has)

-- a union gains what the other set has
pub Gains-union : (a b : ℕ) → Gains a (bit_or a b) (Holds b)
Gains-union a b n = (Holds-union_cases a b n, λ has. elim has [ inl left ↦ Holds-union_left a b n left | inr right ↦ Holds-union_right a b n right ])

-- and so what is said of that set
pub Gains-by : (a b : ℕ) (P : ℕ → Type 0) → ((n : ℕ) → Holds b n ↔ P n) → Gains a (bit_or a b) P
Gains-by a b P same n = (
  λ has. elim (Holds-union_cases a b n has) [ inl left ↦ inl left | inr right ↦ inr ((same n).0 right) ],
  λ has. elim has [ inl left ↦ Holds-union_left a b n left | inr right ↦ Holds-union_right a b n ((same n).1 right) ],
)

pub opposed : (b : Bool) → b ≡ true → b ≡ false → ⊥
opposed b is_true is_false = cc
