-- What a binary search among texts finds.
use Rattle.std.proofs.Common.{Ordering, Less, Equal, Greater, ◌≡◌, ℕ, ◌<◌, zero, suc, List, [], ◌∷◌, Bool, true, false, not, Result, Ok, Err, ◌↔◌, inl, inr, IsTrue, Contains, map, length, slice_index_or, refl, sym, ◌∙◌, ap, arith, add-one}
use Rattle.std.specs.Borrow.{Bor}
use Rattle.std.specs.Cmp.Lexicographic.{slice_cmp}
use Rattle.std.specs.List.Sorted.{IsBinarySearchResult, IsSearchInRange, IsSortedBy}
use Rattle.std.specs.Ordering.{is_lt, nat_cmp}
use Rattle.std.specs.Result.{is_ok}
use Rattle.std.proofs.lemmas.Bool.{and_parts, cases_lt}
use Rattle.std.proofs.lemmas.Cmp.{tied_itself, nat_list_cmp_total}
use Rattle.std.proofs.lemmas.List.Sorted.{searchable_from_sorted}
use Rattle.std.proofs.lemmas.Map.Lookups.{exact_bytes}
use Rattle.swc_base_tables_settings.specs.Rising.{rises_after, is_rising}

not_true : (b : Bool) → not b ≡ true → b ≡ false
not_true true is = sym is
not_true false is = refl

step_after : (before : Bor (List ℕ)) (texts : List (Bor (List ℕ))) → rises_after before.now (map (λ text. text.now) texts) ≡ true → (k : ℕ) (d : Bor (List ℕ)) → k < length texts → is_lt (slice_cmp nat_cmp (slice_index_or texts k d).now (slice_index_or (before ∷ texts) k d).now) ≡ false
step_after before [] rising k d within = absurd (omega arith)
step_after before (text ∷ rest) rising zero d within = not_true _ (and_parts (not (is_lt (slice_cmp nat_cmp text.now before.now))) (rises_after text.now (map (λ text. text.now) rest)) rising).0
step_after before (text ∷ rest) rising (suc k) d within = step_after text rest (and_parts (not (is_lt (slice_cmp nat_cmp text.now before.now))) (rises_after text.now (map (λ text. text.now) rest)) rising).1 k d (omega arith)

sorted : (texts : List (Bor (List ℕ))) → is_rising (map (λ text. text.now) texts) ≡ true → IsSortedBy (λ a b. is_lt (slice_cmp nat_cmp a.now b.now)) texts
sorted [] rising k d low within = absurd (omega arith)
sorted (text ∷ rest) rising k d low within = rw add-one (step_after text rest rising k d (omega arith))

index-map : (texts : List (Bor (List ℕ))) (k : ℕ) (d : Bor (List ℕ)) (e : List ℕ) → k < length texts → slice_index_or (map (λ text. text.now) texts) k e ≡ (slice_index_or texts k d).now
index-map [] k d e within = absurd (omega arith)
index-map (text ∷ rest) zero d e within = refl
index-map (text ∷ rest) (suc k) d e within = index-map rest k d e (omega arith)

length-texts : (texts : List (Bor (List ℕ))) → length (map (λ text. text.now) texts) ≡ length texts
length-texts [] = refl
length-texts (text ∷ rest) = ap suc (length-texts rest)

less_not_equal : {o : Ordering} → o ≡ Less → o ≡ Equal → ⊥
less_not_equal a b = cc

greater_not_equal : {o : Ordering} → o ≡ Greater → o ≡ Equal → ⊥
greater_not_equal a b = cc

-- a binary search in rising texts tells whether a text is among them
pub searched : (texts : List (Bor (List ℕ))) (text : Bor (List ℕ)) → is_rising (map (λ t. t.now) texts) ≡ true → (r : Result ℕ ℕ) → IsSearchInRange r (length texts) → IsBinarySearchResult (λ t. slice_cmp nat_cmp t.now text.now) texts r → IsTrue (is_ok r) ↔ Contains (map (λ t. t.now) texts) text.now
searched texts text rising (Ok at) within equal = (
  λ found. (at, rw (length-texts texts) within, index-map texts at text text.now within ∙ exact_bytes _ _ (equal text)),
  λ among. refl,
)
searched texts text rising (Err at) within parted = (
  λ found. cc,
  λ among.
      let (k, inside, is) = among in
      let there : k < length texts = rw (length-texts texts) at inside in
      let same : (slice_index_or texts k text).now ≡ text.now = sym (index-map texts k text text.now there) ∙ is in
      let equal : slice_cmp nat_cmp (slice_index_or texts k text).now text.now ≡ Equal = rw same (tied_itself nat_list_cmp_total text.now) in
      let around = parted (searchable_from_sorted nat_list_cmp_total (λ (t : Bor (List ℕ)). t.now) texts text.now (sorted texts rising)) in
      elim (cases_lt k at) [
        | inl before ↦ absurd (less_not_equal (around.0 k text (omega arith) before) equal)
        | inr after ↦ absurd (greater_not_equal (around.1 k text after there) equal)
      ],
)

-- a text of a list, by the list of texts
pub text_at : (texts : List (Bor (List ℕ))) (k : ℕ) (d : Bor (List ℕ)) → (slice_index_or texts k d).now ≡ slice_index_or (map (λ text. text.now) texts) k d.now
text_at [] k d = refl
text_at (text ∷ rest) zero d = refl
text_at (text ∷ rest) (suc k) d = text_at rest k d
