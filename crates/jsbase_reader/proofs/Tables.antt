-- A table of marks, checked pair by pair.
use Rattle.std.proofs.Common.{◌≡◌, ℕ, zero, suc, ◌+◌, ◌<◌, ◌≤◌, List, [], ◌∷◌, ◌++◌, length, take, drop, Bool, true, false, ◌&&◌, ◌||◌, ◌==◌, nat_eq, nat_lt, cond, inl, inr, Ok, Err, refl, sym, ap, ◌∙◌, arith, add-one, eq-eqb}
use Rattle.std.specs.List.{list_any}
use Rattle.std.specs.Cmp.{nat_eq_equiv}
use Rattle.std.proofs.lemmas.Map.Views.{list_any-from_Contains, Contains-from_any}
use Rattle.std.proofs.lemmas.List.{get_or-take, length-take-le, take-append-le, take-append-drop, take_more}
use Rattle.std.proofs.Math.Seq.{take-length, drop-length, drop-cons}
use Rattle.json.specs.Value.{items_view}
use Rattle.json.specs.declared.value.Value.{Value}
use Rattle.swc_tree_marks.specs.Globals.{Table, numbers, greatest, Knows, Follows, row_at, IsTable, IsFirstBad}
use Rattle.jsbase_form.specs.Reads.{index}
use Rattle.jsbase_form.specs.Tables.{pair_of, may_follow, checked}
use Rattle.jsbase_reader.proofs.Marks.{same_number}

pub no_pair : {A : Type 0} (vs : List (Value A)) → (length vs ≡ 2 → ⊥) → pair_of (items_view vs) ≡ Err []
no_pair [] h = refl
no_pair (a ∷ []) h = refl
no_pair (a ∷ b ∷ []) h = absurd (h refl)
no_pair (a ∷ b ∷ c ∷ vs) h = refl

either_true : (a b : Bool) → a ≡ true → a || b ≡ true
either_true a b e = rw e refl

other_true : (a b : Bool) → b ≡ true → a || b ≡ true
other_true true b e = refl
other_true false b e = e

knows_test : (table : Table) (n : ℕ) → Knows table n → (n == 0) || list_any (nat_eq n) (numbers table) ≡ true
knows_test table n (inl root) = either_true (n == 0) _ (eq-eqb n 0 root)
knows_test table n (inr has) = other_true (n == 0) _ (list_any-from_Contains nat_eq_equiv n (numbers table) has)

test_knows_at : (table : Table) (n : ℕ) (b : Bool) → (n == 0) ≡ b → b || list_any (nat_eq n) (numbers table) ≡ true → Knows table n
test_knows_at table n true is h = inl (same_number n 0 is)
test_knows_at table n false is h = inr (Contains-from_any same_number n (numbers table) h)

split_test : (a b : Bool) → a && b ≡ true → (a ≡ true) × (b ≡ true)
split_test true b h = (refl, h)
split_test false b h = absurd (cc)

below_test : (m n : ℕ) → m < n → nat_lt m n ≡ true
below_test m n h = grind arith

test_below : (m n : ℕ) → nat_lt m n ≡ true → m < n
test_below m n h = grind arith

follows_test : (before : Table) (row : ℕ × ℕ) → Follows before row → may_follow before row ≡ true
follows_test before row h = rw (below_test (greatest before) row.0 h.0) (knows_test before row.1 h.1)

test_follows : (before : Table) (row : ℕ × ℕ) → may_follow before row ≡ true → Follows before row
test_follows before row h =
    let both = split_test (nat_lt (greatest before) row.0) ((row.1 == 0) || list_any (nat_eq row.1) (numbers before)) h in
    (test_below (greatest before) row.0 both.0, test_knows_at before row.1 (row.1 == 0) refl both.1)

refused_at : (before : Table) (row : ℕ × ℕ) (b : Bool) → may_follow before row ≡ b → (Follows before row → ⊥) → b ≡ false
refused_at before row true is bad = absurd (bad (test_follows before row is))
refused_at before row false is bad = refl

-- one pair more of the table
more_checked : (t : Table) (n : ℕ) → n < length t → Follows (take n t) (row_at t n) → checked (take n t) n (drop n t) ≡ checked (take (n + 1) t) (n + 1) (drop (n + 1) t)
more_checked t n h follows =
    ap (checked (take n t) n) (drop-cons t n (0, 0) h)
    ∙ ap (λ b. cond b (checked (take n t ++ row_at t n ∷ []) (suc n) (drop (suc n) t)) (Err (index n ∷ []))) (follows_test (take n t) (row_at t n) follows)
    ∙ ap (λ before. checked before (suc n) (drop (suc n) t)) (sym (take_more t n (0, 0) h))
    ∙ ap (λ m. checked (take (n + 1) t) m (drop m t)) (sym (add-one n))

whole_checked : (t : Table) (n : ℕ) → n ≡ length t → checked (take n t) n (drop n t) ≡ Ok t
whole_checked t n e = rw e (all_checked t)
  where
    all_checked : (t : Table) → checked (take (length t) t) (length t) (drop (length t) t) ≡ Ok t
    all_checked t = rw (take-length t, drop-length t) refl

good_from : (t : Table) → IsTable t → (k n : ℕ) → n + k ≡ length t → checked (take n t) n (drop n t) ≡ Ok t
good_from t table zero n e = whole_checked t n (omega arith)
good_from t table (suc k) n e = more_checked t n (omega arith) (table n (omega arith)) ∙ good_from t table k (n + 1) (omega arith)

pub good_table : (t : Table) → IsTable t → checked [] 0 t ≡ Ok t
good_table t table = good_from t table (length t) 0 (omega arith)

first_pairs : (t : Table) (i n : ℕ) → i ≤ length t → n ≤ i → take n (take i t) ≡ take n t
first_pairs t i n within le =
    let inside : n ≤ length (take i t) = omega (arith, length-take-le i t within) in
    sym (take-append-le n (take i t) (drop i t) inside) ∙ ap (take n) (take-append-drop i t)

bad_from : (t : Table) (i : ℕ) → IsFirstBad t i → (k n : ℕ) → n + k ≡ i → checked (take n t) n (drop n t) ≡ Err (index i ∷ [])
bad_from t i h zero n e =
    let here : n ≡ i = omega arith in
    rw here (ap (checked (take i t) i) (drop-cons t i (0, 0) h.within)
    ∙ ap (λ b. cond b (checked (take i t ++ row_at t i ∷ []) (suc i) (drop (suc i) t)) (Err (index i ∷ []))) (refused_at (take i t) (row_at t i) _ refl h.bad))
bad_from t i h (suc k) n e =
    let inside : n < length (take i t) = omega (arith, length-take-le i t (omega (arith, h.within)), h.within) in
    let follows : Follows (take n (take i t)) (row_at (take i t) n) = h.before n inside in
    let there : Follows (take n t) (row_at t n) = rw (first_pairs t i n (omega (arith, h.within)) (omega arith), get_or-take i t n (0, 0) (omega arith)) at follows in
    more_checked t n (omega (arith, h.within)) there ∙ bad_from t i h k (n + 1) (omega arith)

pub bad_table : (t : Table) (i : ℕ) → IsFirstBad t i → checked [] 0 t ≡ Err (index i ∷ [])
bad_table t i h = bad_from t i h i 0 (omega arith)
