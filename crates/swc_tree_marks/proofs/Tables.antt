-- What holds of tables of marks.
use Rattle.std.proofs.Common.{◌≡◌, ◌≢◌, ℕ, ◌+◌, ◌-◌, ◌<◌, ◌≤◌, zero, suc, max, [], ◌∷◌, ◌++◌, Some, ◌⊎◌, inl, inr, length, take, drop, Contains, sym, ap, subst, refl, ◌∙◌, arith, length-append}
use Rattle.std.specs.List.{slice_get}
use Rattle.std.proofs.lemmas.Option.{slice_get_within, get_or_from_slice_get}
use Rattle.std.proofs.lemmas.Bool.{cases_lt}
use Rattle.std.proofs.lemmas.List.{get_or-take, length-take-le, take-append-le, take-append-drop, get_or-map, take_more, length-map}
use Rattle.std.proofs.Math.Seq.{take-length, take-append_seam, get_or-append_seam}
use Rattle.std.proofs.Math.ListN.{get_or-append}
use Rattle.swc_tree_marks.specs.Globals.{Table, numbers, greatest, Follows, row_at, IsPlaceOf, IsTable}

-- no number is above the greatest
pub row_at-le-greatest : (t : Table) (i : ℕ) → i < length t → (row_at t i).0 ≤ greatest t
row_at-le-greatest [] i h = omega arith
row_at-le-greatest (row ∷ rest) zero h = omega arith
row_at-le-greatest (row ∷ rest) (suc i) h = let below : (row_at rest i).0 ≤ greatest rest = row_at-le-greatest rest i (omega arith) in omega arith

pub greatest-append : (t : Table) (row : ℕ × ℕ) → greatest (t ++ row ∷ []) ≡ max (greatest t) row.0
greatest-append [] row = omega arith
greatest-append (first ∷ rest) row = let tail = greatest-append rest row in omega arith

-- the greatest number is in the table, unless there is none
pub greatest_place : (t : Table) → greatest t ≢ 0 → (i : ℕ) × IsPlaceOf t (greatest t) i
greatest_place [] some = absurd (some refl)
greatest_place (row ∷ rest) some = elim (cases_lt row.0 (greatest rest)) [
  | inl below ↦
      let (i, place) = greatest_place rest (omega arith) in
      (suc i, record { within = omega (arith, place.within); is = omega (arith, place.is) })
  | inr above ↦ (0, record { within = omega arith; is = omega arith })
]

-- a number's place says that the table has it, and the other way round
pub Contains-from_place : (t : Table) (number i : ℕ) → IsPlaceOf t number i → Contains (numbers t) number
Contains-from_place t number i place = (i, rw (length-map t (λ row. row.0)) place.within, get_or-map (λ row. row.0) t i (0, 0) number place.within ∙ place.is)

pub place_from_Contains : (t : Table) (number : ℕ) → Contains (numbers t) number → (i : ℕ) × IsPlaceOf t number i
place_from_Contains t number (i, inside, here) =
    let within : i < length t = rw (length-map t (λ row. row.0)) at inside in
    (i, record { within = within; is = sym (get_or-map (λ row. row.0) t i (0, 0) number within) ∙ here })

pub Contains-le-greatest : (t : Table) (number : ℕ) → Contains (numbers t) number → number ≤ greatest t
Contains-le-greatest t number has =
    let (i, place) = place_from_Contains t number has in
    let below = row_at-le-greatest t i place.within in
    omega (arith, place.is)

-- the first pairs of a table are one
take-take : (t : Table) (n i : ℕ) → n ≤ length t → i ≤ n → take i (take n t) ≡ take i t
take-take t n i within le =
    let inside : i ≤ length (take n t) = omega (arith, length-take-le n t within) in
    sym (take-append-le i (take n t) (drop n t) inside) ∙ ap (take i) (take-append-drop n t)

pub IsTable-take : (t : Table) (n : ℕ) → n ≤ length t → IsTable t → IsTable (take n t)
IsTable-take t n within table i h =
    let below : i < n = omega (arith, length-take-le n t within) in
    rw (take-take t n i within (omega arith), get_or-take n t i (0, 0) below) (table i (omega arith))

-- a table with a pair more that follows the others
append_at : (t : Table) (row : ℕ × ℕ) → IsTable t → Follows t row → (i : ℕ) → i < length (t ++ row ∷ []) → (i < length t) ⊎ (length t ≤ i) → Follows (take i (t ++ row ∷ [])) (row_at (t ++ row ∷ []) i)
append_at t row table follows i h (inl before) = rw (take-append-le i t (row ∷ []) (omega arith), get_or-append t (row ∷ []) (0, 0) i before) (table i before)
append_at t row table follows i h (inr after) =
    let last : i ≡ length t = omega (arith, length-append t (row ∷ [])) in
    rw (last, take-append_seam t (row ∷ []), get_or-append_seam t row [] (0, 0)) follows

pub IsTable-append : (t : Table) (row : ℕ × ℕ) → IsTable t → Follows t row → IsTable (t ++ row ∷ [])
IsTable-append t row table follows i h = append_at t row table follows i h (cases_lt i (length t))

pub IsTable-take_more : (t : Table) (i : ℕ) → i < length t → IsTable (take i t) → Follows (take i t) (row_at t i) → IsTable (take (i + 1) t)
IsTable-take_more t i h before follows = rw (take_more t i (0, 0) h) (IsTable-append (take i t) (row_at t i) before follows)

pub IsTable-all : (t : Table) (n : ℕ) → n ≡ length t → IsTable (take n t) → IsTable t
IsTable-all t n all table = subst IsTable (take-length t) (subst (λ k. IsTable (take k t)) all table)

-- the last number is the greatest
pub greatest-last : (t : Table) → IsTable t → 0 < length t → greatest t ≡ (row_at t (length t - 1)).0
greatest-last t table some =
    let last = length t - 1 in
    let follows = (table last (omega arith)).0 in
    let whole : take (last + 1) t ≡ t = subst (λ n. take n t ≡ t) {x = length t} (omega arith) (take-length t) in
    let split = ap greatest (sym whole ∙ take_more t last (0, 0) (omega arith)) ∙ greatest-append (take last t) (row_at t last) in
    omega (arith, split, follows)

pub last_is_greatest : (t : Table) → IsTable t → (row : ℕ × ℕ) → slice_get t (length t - 1) ≡ Some row → row.0 ≡ greatest t
last_is_greatest t table row last =
    let within = slice_get_within t (length t - 1) row last in
    let is_row = ap (λ (r : ℕ × ℕ). r.0) (get_or_from_slice_get t (length t - 1) row (0, 0) last) in
    omega (arith, is_row, greatest-last t table (omega arith))

-- the numbers rise
pub rising : (t : Table) → IsTable t → (i j : ℕ) → i < j → j < length t → (row_at t i).0 < (row_at t j).0
rising t table i j lt within =
    let follows = (table j within).0 in
    let below = row_at-le-greatest (take j t) i (omega (arith, length-take-le j t (omega arith))) in
    let same = ap (λ (row : ℕ × ℕ). row.0) (get_or-take j t i (0, 0) lt) in
    omega (arith, follows, below, same)

-- the root is no number of a table
pub root_has_no_place : (t : Table) → IsTable t → (i : ℕ) → IsPlaceOf t 0 i → ⊥
root_has_no_place t table i place = let follows = (table i place.within).0 in omega (arith, place.is, follows)
