-- The marks of signs, as a binary search finds them.
use Rattle.std.proofs.Common.{◌≡◌, ℕ, zero, suc, ◌<◌, true, false, List, [], ◌∷◌, Result, Ok, Err, Contains, IsTrue, inl, inr, length, get_or, ◌==◌, refl, sym, ap, arith}
use Rattle.std.specs.List.Sorted.{IsBinarySearchResult, IsNonDecreasingBy, IsSearchInRange}
use Rattle.std.specs.Result.{is_ok}
use Rattle.std.specs.Ordering.{nat_cmp, ordering_index}
use Rattle.std.proofs.lemmas.Bool.{cases_eq, cases_lt, ne_eqb}
use Rattle.std.proofs.lemmas.Bool.Decides.{nat_tests}
use Rattle.std.proofs.lemmas.Cmp.{ranked}
use Rattle.mucwathi_signs.specs.declared.sign.Sign.{Sign}
use Rattle.mucwathi_looks.specs.Given.{Rise, marks_at}

rest_rises : (s : Sign) (ss : List Sign) → Rise (s ∷ ss) → Rise ss
rest_rises s ss rises i j d before within = rises (suc i) (suc j) d (omega arith) (omega arith)

-- the sign at a place is the first of it
pub marks_of_place : (ss : List Sign) (i place : ℕ) (d : Sign) → Rise ss → i < length ss → (get_or ss i d).at ≡ place → marks_at ss place ≡ (get_or ss i d).marks.items
marks_of_place [] i place d rises within is = absurd (omega arith)
marks_of_place (s ∷ ss) zero place d rises within is = let same : (s.at == place) ≡ true = grind (arith, nat_tests, is) in rw same refl
marks_of_place (s ∷ ss) (suc i) place d rises within is =
    let below : s.at < (get_or ss i d).at = rises zero (suc i) d (omega arith) within in
    let other : (s.at == place) ≡ false = ne_eqb s.at place (λ same. absurd (omega arith)) in
    rw other (marks_of_place ss i place d (rest_rises s ss rises) (omega arith) is)

-- where none is, there are no marks
pub marks_of_none : (ss : List Sign) (place : ℕ) → ((k : ℕ) (d : Sign) → k < length ss → (get_or ss k d).at ≡ place → ⊥) → marks_at ss place ≡ []
marks_of_none [] place none = refl
marks_of_none (s ∷ ss) place none =
    elim (cases_eq s.at place) [
      | inl is ↦ absurd (none zero s (omega arith) is)
      | inr apart ↦ let other : (s.at == place) ≡ false = ne_eqb s.at place apart in rw other (marks_of_none ss place (λ k d within is. none (suc k) d (omega arith) is))
    ]

module _ (ss : List Sign) (rises : Rise ss) (place : ℕ) where
  comparisons_rise : IsNonDecreasingBy (λ s. ordering_index (nat_cmp s.at place)) ss
  comparisons_rise i j d le within =
      elim (cases_eq i j) [
        | inl same ↦ let equal : (get_or ss i d).at ≡ (get_or ss j d).at = ap (λ n. (get_or ss n d).at) same in grind (arith, nat_tests, equal)
        | inr apart ↦ let below : (get_or ss i d).at < (get_or ss j d).at = rises i j d (omega arith) within in grind (arith, nat_tests, below)
      ]

  -- what a binary search finds
  pub found_at : (i : ℕ) (d : Sign) → i < length ss → IsBinarySearchResult (λ s. nat_cmp s.at place) ss (Ok i) → marks_at ss place ≡ (get_or ss i d).marks.items
  found_at i d within equal = marks_of_place ss i place d rises within (ranked _ place _ (sym (equal d)))

  pub found_nowhere : (i : ℕ) → IsBinarySearchResult (λ s. nat_cmp s.at place) ss (Err i) → marks_at ss place ≡ []
  found_nowhere i parted = marks_of_none ss place (λ k d within is.
      elim (cases_lt k i) [
        | inl before ↦ let below : (get_or ss k d).at < place = ranked _ place _ (sym ((parted comparisons_rise).0 k d (omega arith) before)) in absurd (omega arith)
        | inr after ↦ let above : place < (get_or ss k d).at = ranked _ place _ (sym ((parted comparisons_rise).1 k d after within)) in absurd (omega arith)
      ])

-- a number that a binary search finds is one of those searched
pub listed : (xs : List ℕ) (x : ℕ) (r : Result ℕ ℕ) → IsSearchInRange r (length xs) → IsBinarySearchResult (λ y. nat_cmp y x) xs r → IsTrue (is_ok r) → Contains xs x
listed xs x (Ok i) within equal found = (i, within, ranked _ x _ (sym (equal x)))
listed xs x (Err i) within parted found = absurd (cc)
