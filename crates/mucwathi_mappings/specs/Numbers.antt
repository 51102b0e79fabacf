-- Numbers in base 64.
use Rattle.std.specs.Prelude.{◌≡◌, ℕ, ◌+◌, ◌*◌, ◌-◌, ◌/◌, ◌%◌, ◌<◌, ◌≤◌, List, [], ◌∷◌, ◌++◌, nat_lt, if◌then◌else◌, codes, slice_index}

-- a digit of base 64
abbrev pub digit : ℕ → ℕ
digit n = slice_index (codes "ABCDEFGHIJKLMNOPQRSTUVWXYZabcdefghijklmnopqrstuvwxyz0123456789+/") n

-- the digits of a number: five bits each, the least first, and 32 more where others follow
pub data IsNumber : ℕ → List ℕ → Type 0 where
  last : (n : ℕ) → n < 32 → IsNumber n (digit n ∷ [])
  more : (n : ℕ) (ds : List ℕ) → 32 ≤ n → IsNumber (n / 32) ds → IsNumber n (digit (n % 32 + 32) ∷ ds)

-- how far it is from one number to another: twice that, and 1 more if it is back
abbrev pub way : ℕ → ℕ → ℕ
way from to = if nat_lt to from then 2 * (from - to) + 1 else 2 * (to - from)

-- the digits of a number were added
pub record AddsNumber (n : ℕ) (old new : List ℕ) : Type 0 where
  pub digits : List ℕ
  pub whole : new ≡ old ++ digits
  pub are : IsNumber n digits

abbrev pub AddsWay : ℕ → ℕ → List ℕ → List ℕ → Type 0
AddsWay from to old new = AddsNumber (way from to) old new
