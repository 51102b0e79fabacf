-- The bits of each version are its features.
use Rattle.std.proofs.Common.{◌≡◌, ℕ, ◌^◌, ◌≤◌, zero, suc, max, List, [], ◌∷◌, ◌⊎◌, inl, inr, ◌↔◌, slice_index_or, Contains, arith}
use Rattle.std.specs.Int.{bit_at}
use Rattle.std.specs.Int.RustNames.{bit_or}
use Rattle.std.proofs.lemmas.Bool.{cases_eq, cases_lt}
use Rattle.std.proofs.lemmas.Nat.Bits.{bit_at_or, bit_at-zero, bit_at-pow_same, bit_at-pow_other}
use Rattle.swc_tree_version.specs.declared.version.EsVersion.{EsVersion}
use Rattle.swc_base_tables_settings.specs.Features.{Has, HasFeature, added, place_of}

greater_cases : (a b : ℕ) → max a b ≡ 1 → (a ≡ 1) ⊎ (b ≡ 1)
greater_cases a b is = elim (cases_lt a b) [ inl below ↦ inr (omega arith) | inr above ↦ inl (omega arith) ]

greater_left : (a b : ℕ) → b ≤ 1 → a ≡ 1 → max a b ≡ 1
greater_left a b small is = omega arith

greater_right : (a b : ℕ) → a ≤ 1 → b ≡ 1 → max a b ≡ 1
greater_right a b small is = omega arith

bit_at-le : (a n : ℕ) → bit_at a n ≤ 1
bit_at-le a n = omega arith

Has-union_cases : (a b n : ℕ) → Has (bit_or a b) n → Has a n ⊎ Has b n
Has-union_cases a b n has = greater_cases (bit_at a n) (bit_at b n) (rw (bit_at_or a b n) at has)

Has-union_left : (a b n : ℕ) → Has a n → Has (bit_or a b) n
Has-union_left a b n has = rw (bit_at_or a b n) (greater_left (bit_at a n) (bit_at b n) (bit_at-le b n) has)

Has-union_right : (a b n : ℕ) → Has b n → Has (bit_or a b) n
Has-union_right a b n has = rw (bit_at_or a b n) (greater_right (bit_at a n) (bit_at b n) (bit_at-le a n) has)

-- the set of these features
abbrev set_of : List ℕ → ℕ
set_of [] = 0
set_of (bit ∷ rest) = bit_or (2 ^ bit) (set_of rest)

Contains_cases : (first bit : ℕ) (rest : List ℕ) → Contains (first ∷ rest) bit → (first ≡ bit) ⊎ Contains rest bit
Contains_cases first bit rest (zero, within, is) = inl is
Contains_cases first bit rest (suc place, within, is) = inr (place, omega arith, is)

Contains-rest : (first bit : ℕ) (rest : List ℕ) → Contains rest bit → Contains (first ∷ rest) bit
Contains-rest first bit rest (place, within, is) = (suc place, omega arith, is)

set_has : (bits : List ℕ) (n : ℕ) → Has (set_of bits) n → Contains bits n
set_has [] n has = absurd (omega (arith, bit_at-zero n))
set_has (bit ∷ rest) n has = elim (Has-union_cases (2 ^ bit) (set_of rest) n has) [
  | inl here ↦ elim (cases_eq n bit) [
    | inl same ↦ (0, omega arith, omega arith)
    | inr other ↦ absurd (omega (arith, bit_at-pow_other bit n other))
  ]
  | inr later ↦ Contains-rest bit n rest (set_has rest n later)
]

has_set : (bits : List ℕ) (n : ℕ) → Contains bits n → Has (set_of bits) n
has_set [] n (place, within, is) = absurd (omega arith)
has_set (bit ∷ rest) n among = elim (Contains_cases bit n rest among) [
  | inl here ↦ Has-union_left (2 ^ bit) (set_of rest) n (rw here (bit_at-pow_same n))
  | inr later ↦ Has-union_right (2 ^ bit) (set_of rest) n (has_set rest n later)
]

abbrev added_at : ℕ → List ℕ
added_at place = slice_index_or added place []

-- the features that the versions up to a place add
abbrev pub all_to : ℕ → ℕ
all_to zero = set_of (added_at zero)
all_to (suc place) = bit_or (all_to place) (set_of (added_at (suc place)))

abbrev HasTo : ℕ → ℕ → Type 0
HasTo place feature = (earlier : ℕ) × (earlier ≤ place) × Contains (slice_index_or added earlier []) feature

from_all : (place n : ℕ) → Has (all_to place) n → HasTo place n
from_all zero n has = (0, omega arith, set_has (added_at zero) n has)
from_all (suc place) n has = elim (Has-union_cases (all_to place) (set_of (added_at (suc place))) n has) [
  | inl before ↦ let (earlier, within, there) = from_all place n before in (earlier, omega arith, there)
  | inr here ↦ (suc place, omega arith, set_has (added_at (suc place)) n here)
]

in_all : (place n earlier : ℕ) → earlier ≤ place → Contains (added_at earlier) n → Has (all_to place) n
in_all zero n earlier within has =
    let first : earlier ≡ 0 = omega arith in
    has_set (added_at zero) n (rw first at has)
in_all (suc place) n earlier within has = elim (cases_eq earlier (suc place)) [
  | inl here ↦ Has-union_right (all_to place) (set_of (added_at (suc place))) n (has_set (added_at (suc place)) n (rw here at has))
  | inr other ↦ Has-union_left (all_to place) (set_of (added_at (suc place))) n (in_all place n earlier (omega arith) has)
]

pub has_to : (place n : ℕ) → Has (all_to place) n ↔ HasTo place n
has_to place n = (from_all place n, λ has. let (earlier, within, there) = has in in_all place n earlier within there)

-- a later version has what an earlier one has
pub has_later : (earlier later : EsVersion) (n : ℕ) → place_of earlier ≤ place_of later → HasFeature earlier n → HasFeature later n
has_later earlier later n before (place, within, there) = (place, omega arith, there)
