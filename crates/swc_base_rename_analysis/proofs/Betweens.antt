-- The first of ascending positions from a start, and positions of ids ascend.
use Rattle.std.proofs.Common.{◌≡◌, ◌↔◌, IsTrue, ℕ, zero, suc, ◌<◌, ◌≤◌, Bool, true, false, ◌&&◌, ◌⊎◌, inl, inr, Option, Some, None, Ok, Err, List, [], ◌∷◌, ◌++◌, length, get_or, map, cond, arith, refl, sym, ap, ◌∙◌, subst}
use Rattle.std.specs.Option.{is_some}
use Rattle.std.specs.List.{slice_get}
use Rattle.std.specs.List.Sorted.{IsBinarySearchResult}
use Rattle.std.specs.Ordering.{nat_cmp}
use Rattle.std.proofs.lemmas.List.Sorted.{searched}
use Rattle.swc_base_rename_analysis.specs.Between.{AreAscending, IsFirstFrom, OneBetween}
use Rattle.swc_base_rename_analysis.specs.declared.analysis.Analysis.{Analysis}
use Rattle.swc_base_rename_analysis.specs.declared.layout.Region.{Region}
use Rattle.swc_base_rename_analysis.specs.Read.{Occurs}
use Rattle.swc_base_rename_analysis.specs.declared.numbers.Entry.{Entry}
use Rattle.swc_base_rename_analysis.specs.Numbers.{Known, fresh, id_met, is_analysed, known_by, known_of, met_next, number_in, same_id, seen, seen_in, with_id}
use Rattle.swc_base_rename_analysis.specs.Walk.{Met}
use Rattle.swc_tree_scoping.specs.BoundNames.{Id}
use Rattle.swc_tree_scoping.specs.Scopes.{is_name}

before_or_not : (i j : ℕ) → (i < j) ⊎ (j ≤ i)
before_or_not i zero = inr (omega arith)
before_or_not zero (suc j) = inl (omega arith)
before_or_not (suc i) (suc j) = by (before_or_not i j)
  where
    by : (i < j) ⊎ (j ≤ i) → (suc i < suc j) ⊎ (suc j ≤ suc i)
    by (inl l) = inl (omega (arith, l))
    by (inr l) = inr (omega (arith, l))

no_fall : (xs : List ℕ) → AreAscending xs → (i j : ℕ) → i ≤ j → j < length xs → get_or xs i 0 ≤ get_or xs j 0
no_fall xs up i j l m = by (before_or_not i j)
  where
    by : (i < j) ⊎ (j ≤ i) → get_or xs i 0 ≤ get_or xs j 0
    by (inl n) = let less = up i j n m in omega (arith, less)
    by (inr n) = let same : i ≡ j = omega (arith, l, n) in let e = ap (λ i. get_or xs i 0) same in omega (arith, e)

pub found_first : (xs : List ℕ) (start i : ℕ) → AreAscending xs → IsBinarySearchResult (λ y. nat_cmp y start) xs (Ok i) → IsFirstFrom xs start i
found_first xs start i up h = by (searched xs start (Ok i) h (no_fall xs up))
  where
    by : (i < length xs) × (get_or xs i 0 ≡ start) → IsFirstFrom xs start i
    by (l, e) = (omega (arith, l), λ k m. (let less = up k i m l in omega (arith, less, e)), λ k m n. (let more = no_fall xs up i k m n in omega (arith, more, e)))

pub missed_first : (xs : List ℕ) (start i : ℕ) → AreAscending xs → IsBinarySearchResult (λ y. nat_cmp y start) xs (Err i) → IsFirstFrom xs start i
missed_first xs start i up h = by (searched xs start (Err i) h (no_fall xs up))
  where
    by : (i ≤ length xs) × ((k : ℕ) → k < i → get_or xs k 0 < start) × ((k : ℕ) → i ≤ k → k < length xs → start < get_or xs k 0) → IsFirstFrom xs start i
    by (l, less, more) = (l, less, λ k m n. (let after = more k m n in omega (arith, after)))

-- positions below a bound, one behind the other
abbrev AreBelow : ℕ → List ℕ → Type 0
AreBelow n xs = ((k : ℕ) → k < length xs → get_or xs k 0 < n) × AreAscending xs

last_or_not : (xs : List ℕ) (n k : ℕ) → k < length (xs ++ n ∷ []) → ((k < length xs) × (get_or (xs ++ n ∷ []) k 0 ≡ get_or xs k 0)) ⊎ ((length xs ≤ k) × (get_or (xs ++ n ∷ []) k 0 ≡ n))
last_or_not [] n zero l = inr (omega arith, refl)
last_or_not [] n (suc k) l = absurd (omega (arith, l))
last_or_not (x ∷ xs) n zero l = inl (omega arith, refl)
last_or_not (x ∷ xs) n (suc k) l = by (last_or_not xs n k (omega (arith, l)))
  where
    by : ((k < length xs) × (get_or (xs ++ n ∷ []) k 0 ≡ get_or xs k 0)) ⊎ ((length xs ≤ k) × (get_or (xs ++ n ∷ []) k 0 ≡ n))
        → ((suc k < suc (length xs)) × (get_or (xs ++ n ∷ []) k 0 ≡ get_or xs k 0)) ⊎ ((suc (length xs) ≤ suc k) × (get_or (xs ++ n ∷ []) k 0 ≡ n))
    by (inl (m, e)) = inl (omega (arith, m), e)
    by (inr (m, e)) = inr (omega (arith, m), e)

length_after : (xs : List ℕ) (n : ℕ) → length (xs ++ n ∷ []) ≡ suc (length xs)
length_after [] n = refl
length_after (x ∷ xs) n = ap (λ k. suc k) (length_after xs n)

one_behind : (xs : List ℕ) (n : ℕ) → AreBelow n xs → AreBelow (suc n) (xs ++ n ∷ [])
one_behind xs n (below, up) = (bound, rising)
  where
    bound : (k : ℕ) → k < length (xs ++ n ∷ []) → get_or (xs ++ n ∷ []) k 0 < suc n
    bound k l = by (last_or_not xs n k l)
      where
        by : ((k < length xs) × (get_or (xs ++ n ∷ []) k 0 ≡ get_or xs k 0)) ⊎ ((length xs ≤ k) × (get_or (xs ++ n ∷ []) k 0 ≡ n)) → get_or (xs ++ n ∷ []) k 0 < suc n
        by (inl (m, e)) = let less = below k m in omega (arith, less, e)
        by (inr (m, e)) = omega (arith, e)

    rising : AreAscending (xs ++ n ∷ [])
    rising i j l m = by (last_or_not xs n i (omega (arith, l, m))) (last_or_not xs n j m)
      where
        by : ((i < length xs) × (get_or (xs ++ n ∷ []) i 0 ≡ get_or xs i 0)) ⊎ ((length xs ≤ i) × (get_or (xs ++ n ∷ []) i 0 ≡ n))
            → ((j < length xs) × (get_or (xs ++ n ∷ []) j 0 ≡ get_or xs j 0)) ⊎ ((length xs ≤ j) × (get_or (xs ++ n ∷ []) j 0 ≡ n)) → get_or (xs ++ n ∷ []) i 0 < get_or (xs ++ n ∷ []) j 0
        by (inl (a, e)) (inl (b, f)) = let less = up i j l b in omega (arith, less, e, f)
        by (inl (a, e)) (inr (b, f)) = let less = below i a in omega (arith, less, e, f)
        by (inr (a, e)) (inl (b, f)) = absurd (omega (arith, a, b, l))
        by (inr (a, e)) (inr (b, f)) = let end = length_after xs n in absurd (omega (arith, a, l, m, end))

still_below : (xs : List ℕ) (n : ℕ) → AreBelow n xs → AreBelow (suc n) xs
still_below xs n (below, up) = (λ k l. (let less = below k l in omega (arith, less)), up)

abbrev AllBelow : ℕ → List Known → Type 0
AllBelow n [] = Unit {0}
AllBelow n (e ∷ es) = AreBelow n e.positions × AllBelow n es

all_still : (es : List Known) (n : ℕ) → AllBelow n es → AllBelow (suc n) es
all_still [] n a = tt
all_still (e ∷ es) n (b, a) = (still_below e.positions n b, all_still es n a)

all_with : (es : List Known) (n : ℕ) (x : Id) → AllBelow n es → AllBelow n (es ++ fresh x ∷ [])
all_with [] n x a = ((λ k l. absurd (omega (arith, l)), λ i j l m. absurd (omega (arith, m))), tt)
all_with (e ∷ es) n x (b, a) = (b, all_with es n x a)

all_with_id : (es : List Known) (n : ℕ) (x : Id) → AllBelow n es → AllBelow n (with_id es x)
all_with_id es n x a = by (is_some (number_in es x))
  where
    by : (c : Bool) → AllBelow n (cond c es (es ++ fresh x ∷ []))
    by true = a
    by false = all_with es n x a

one_seen : (c : Bool) (xs : List ℕ) (n : ℕ) → AreBelow n xs → AreBelow (suc n) (cond c (xs ++ n ∷ []) xs)
one_seen true xs n b = one_behind xs n b
one_seen false xs n b = still_below xs n b

all_seen : (es : List Known) (n : ℕ) (m : Met) → AllBelow n es → AllBelow (suc n) (seen_in n m es)
all_seen [] n m a = tt
all_seen (e ∷ es) n m (b, a) = by (all_seen es n m a) (same_id e.id (id_met m))
  where
    by : AllBelow (suc n) (seen_in n m es) → (c : Bool) → AllBelow (suc n) (cond c (seen n m e ∷ es) (e ∷ seen_in n m es))
    by rest true = (one_seen (is_name m.standing && is_analysed e.id) e.positions n b, all_still es n a)
    by rest false = (still_below e.positions n b, rest)

all_known : (ms : List Met) (n : ℕ) → AllBelow n (known_by ms n)
all_known ms zero = tt
all_known ms (suc n) = by (all_known ms n) (slice_get ms n)
  where
    by : AllBelow n (known_by ms n) → (o : Option Met) → AllBelow (suc n) (met_next n o (known_by ms n))
    by a None = all_still (known_by ms n) n a
    by a (Some m) = all_seen (with_id (known_by ms n) (id_met m)) n m (all_with_id (known_by ms n) n (id_met m) a)

each_rises : (es : List Entry) (n i : ℕ) (e : Entry) → AllBelow n (map known_of es) → slice_get es i ≡ Some e → AreAscending e.positions.items
each_rises [] n i e a h = absurd (cc)
each_rises (f ∷ es) n zero e (b, a) h = let same : f ≡ e = cc in subst (λ e. AreAscending e.positions.items) same b.1
each_rises (f ∷ es) n (suc i) e (b, a) h = each_rises es n i e a h

-- the positions of each id ascend
pub positions_ascend : (es : List Entry) (ms : List Met) (n : ℕ) → map known_of es ≡ known_by ms n → (i : ℕ) (e : Entry) → slice_get es i ≡ Some e → AreAscending e.positions.items
positions_ascend es ms n known i e h = each_rises es n i e (subst (AllBelow n) (sym known) (all_known ms n)) h

one_entry : {X : Type 0} (o : Option X) (a b : X) → o ≡ Some a → o ≡ Some b → a ≡ b
one_entry None a b h g = absurd (cc)
one_entry (Some x) a b h g = let first : x ≡ a = cc in let second : x ≡ b = cc in sym first ∙ second

-- whether an id occurs in a scope, of which both are known
pub between_known : (a : Analysis) (scope id : ℕ) (r : Region) (e : Entry) → slice_get a.regions.items scope ≡ Some r → slice_get a.ids.items id ≡ Some e
    → (b : Bool) → IsTrue b ↔ OneBetween e.positions.items r.start r.end → IsTrue b ↔ Occurs a scope id
between_known a scope id r e region entry b decided = (λ h. (r, e, region, entry, decided.0 h), back)
  where
    back : Occurs a scope id → IsTrue b
    back (s, f, there, here, k) = decided.1 (subst (λ s. OneBetween e.positions.items s.start s.end) (one_entry (slice_get a.regions.items scope) s r there region) (subst (λ f. OneBetween f.positions.items s.start s.end) (one_entry (slice_get a.ids.items id) f e here entry) k))
