-- What a look-up in a table of marks finds.
use Rattle.std.proofs.Common.{◌≡◌, ◌≢◌, ℕ, ◌<◌, ◌≤◌, ◌==◌, ◌↔◌, zero, suc, true, false, cond, [], ◌∷◌, Option, Some, None, Result, Ok, Err, IsTrue, MatchOption, ◌⊎◌, inl, inr, length, Contains, sym, ap, refl, arith}
use Rattle.std.specs.List.{find, list_any}
use Rattle.std.specs.List.Sorted.{IsSearchInRange, IsBinarySearchResult, IsNonDecreasingBy}
use Rattle.std.specs.Option.{is_some}
use Rattle.std.specs.Result.{result_ok}
use Rattle.std.specs.Ordering.{nat_cmp, ordering_index}
use Rattle.std.proofs.lemmas.Bool.{cases_eq, cases_lt, ne_eqb}
use Rattle.std.proofs.lemmas.Bool.Decides.{nat_tests}
use Rattle.std.proofs.lemmas.Cmp.{ranked}
use Rattle.std.proofs.lemmas.List.Folds.{list_any_at}
use Rattle.std.proofs.lemmas.List.Sorted.{IsNonDecreasingBy-from_default}
use Rattle.swc_tree_marks.specs.Globals.{Table, numbers, Knows, row_at, IsPlaceOf, IsTable, parent_in, recorded}
use Rattle.swc_tree_marks.proofs.Tables.{rising, Contains-from_place, place_from_Contains}

module _ (t : Table) (table : IsTable t) (number : ℕ) where
  -- the comparisons with a number rise along a table, as a binary search asks
  comparisons_rise : IsNonDecreasingBy (λ row. ordering_index (nat_cmp row.0 number)) t
  comparisons_rise = IsNonDecreasingBy-from_default (λ row. ordering_index (nat_cmp row.0 number)) t (0, 0) (λ i j le within.
      let in_order : (row_at t i).0 ≤ (row_at t j).0 = grind (arith, rising t table i j, λ (same : i ≡ j). ap (λ n. (row_at t n).0) same) in
      grind (arith, nat_tests))

  -- a binary search ends at the number's place, or there is none
  pub searched : (r : Result ℕ ℕ) → IsSearchInRange r (length t) → IsBinarySearchResult (λ row. nat_cmp row.0 number) t r → MatchOption (result_ok r) (¬ Contains (numbers t) number) (IsPlaceOf t number)
  searched (Ok at) within equal = record { within = within; is = ranked _ number _ (sym (equal (0, 0))) }
  searched (Err at) within parted = λ has.
      let (i, place) = place_from_Contains t number has in
      elim (cases_lt i at) [
        | inl before ↦ let below : (row_at t i).0 < number = ranked _ number _ (sym ((parted comparisons_rise).0 i (0, 0) (omega arith) before)) in omega (arith, place.is)
        | inr after ↦ let above : number < (row_at t i).0 = ranked _ number _ (sym ((parted comparisons_rise).1 i (0, 0) after place.within)) in omega (arith, place.is)
      ]

-- a mark other than the root is known where its place was found
pub known_from_place : (t : Table) (number : ℕ) (place : Option ℕ) → number ≢ 0 → MatchOption place (¬ Contains (numbers t) number) (IsPlaceOf t number) → IsTrue (is_some place) ↔ Knows t number
known_from_place t number None other absent = (λ h. cc, λ known. elim known [ inl root ↦ absurd (other root) | inr has ↦ absurd (absent has) ])
known_from_place t number (Some i) other place = (λ h. inr (Contains-from_place t number i place), λ known. refl)

-- whether a number has a place is decided
no_place_more : (row : ℕ × ℕ) (rest : Table) (number : ℕ) → row.0 ≢ number → ((i : ℕ) → IsPlaceOf rest number i → ⊥) → (i : ℕ) → IsPlaceOf (row ∷ rest) number i → ⊥
no_place_more row rest number other none zero place = other place.is
no_place_more row rest number other none (suc i) place = none i (record { within = omega (arith, place.within); is = place.is })

pub placed : (t : Table) (number : ℕ) → ((i : ℕ) × IsPlaceOf t number i) ⊎ ((i : ℕ) → IsPlaceOf t number i → ⊥)
placed [] number = inr (λ i place. omega (arith, place.within))
placed (row ∷ rest) number = elim (cases_eq row.0 number) [
  | inl here ↦ inl (0, record { within = omega arith; is = here })
  | inr other ↦ elim (placed rest number) [
    | inl found ↦ inl (suc found.0, record { within = omega (arith, found.1.within); is = found.1.is })
    | inr none ↦ inr (no_place_more row rest number other none)
  ]
]

pub no_place : (t : Table) (number : ℕ) → ¬ Contains (numbers t) number → (i : ℕ) → IsPlaceOf t number i → ⊥
no_place t number absent i place = absent (Contains-from_place t number i place)

-- the first pair of a number
find_first : (t : Table) (number i : ℕ) → IsPlaceOf t number i → ((j : ℕ) → j < i → (row_at t j).0 ≢ number) → find (λ row. row.0 == number) t ≡ Some (row_at t i)
find_first [] number i place first = absurd (omega (arith, place.within))
find_first (row ∷ rest) number zero place first = let same : (row.0 == number) ≡ true = grind (arith, nat_tests, place.is) in rw same refl
find_first (row ∷ rest) number (suc i) place first =
    let differs : (row.0 == number) ≡ false = ne_eqb row.0 number (first 0 (omega arith)) in
    rw differs (find_first rest number i (record { within = omega (arith, place.within); is = place.is }) (λ j before. first (suc j) (omega arith)))

find_nowhere : (t : Table) (number : ℕ) → ((i : ℕ) → IsPlaceOf t number i → ⊥) → find (λ row. row.0 == number) t ≡ None
find_nowhere [] number none = refl
find_nowhere (row ∷ rest) number none =
    let differs : (row.0 == number) ≡ false = ne_eqb row.0 number (λ here. none 0 (record { within = omega arith; is = here })) in
    rw differs (find_nowhere rest number (λ i place. none (suc i) (record { within = omega (arith, place.within); is = place.is })))

-- the parent of the number at a place, and of a number that has none
pub parent_in-at : (t : Table) → IsTable t → (number i : ℕ) → IsPlaceOf t number i → parent_in t number ≡ (row_at t i).1
parent_in-at t table number i place = rw (find_first t number i place (λ j before same. let below = rising t table j i before place.within in omega (arith, place.is, below))) refl

pub parent_in-unknown : (t : Table) (number : ℕ) → ((i : ℕ) → IsPlaceOf t number i → ⊥) → parent_in t number ≡ 0
parent_in-unknown t number none = rw (find_nowhere t number none) refl

-- the parent that a look-up of the place gives
pub parent_from_place : (t : Table) → IsTable t → (number : ℕ) (place : Option ℕ) → MatchOption place (¬ Contains (numbers t) number) (IsPlaceOf t number) → MatchOption place (parent_in t number ≡ 0) (λ i. parent_in t number ≡ (row_at t i).1)
parent_from_place t table number None absent = parent_in-unknown t number (no_place t number absent)
parent_from_place t table number (Some i) place = parent_in-at t table number i place

-- a known parent is recorded as it is, and an unknown one as the root
pub recorded-known : (t : Table) (parent : ℕ) → Knows t parent → recorded t parent ≡ parent
recorded-known t parent (inl root) = elim (list_any (λ row. row.0 == parent) t) as (λ b. cond b parent 0 ≡ parent) [ true ↦ refl | false ↦ sym root ]
recorded-known t parent (inr has) =
    let (i, place) = place_from_Contains t parent has in
    let here : ((row_at t i).0 == parent) ≡ true = grind (arith, nat_tests, place.is) in
    rw (list_any_at (λ row. row.0 == parent) t i (0, 0) place.within here) refl

any_nowhere : (t : Table) (number : ℕ) → ((i : ℕ) → IsPlaceOf t number i → ⊥) → list_any (λ row. row.0 == number) t ≡ false
any_nowhere [] number none = refl
any_nowhere (row ∷ rest) number none =
    let differs : (row.0 == number) ≡ false = ne_eqb row.0 number (λ here. none 0 (record { within = omega arith; is = here })) in
    rw differs (any_nowhere rest number (λ i place. none (suc i) (record { within = omega (arith, place.within); is = place.is })))

recorded-nowhere : (t : Table) (parent : ℕ) → ((i : ℕ) → IsPlaceOf t parent i → ⊥) → recorded t parent ≡ 0
recorded-nowhere t parent none = rw (any_nowhere t parent none) refl

pub recorded-unknown : (t : Table) (parent : ℕ) → ¬ Knows t parent → recorded t parent ≡ 0
recorded-unknown t parent unknown = recorded-nowhere t parent (no_place t parent (λ has. unknown (inr has)))

-- a table knows each parent that it records
pub Knows-recorded : (t : Table) (parent : ℕ) → Knows t (recorded t parent)
Knows-recorded t parent = elim (placed t parent) [
  | inl found ↦ let has : Knows t parent = inr (Contains-from_place t parent found.0 found.1) in rw (recorded-known t parent has) has
  | inr none ↦ inl (recorded-nowhere t parent none)
]
