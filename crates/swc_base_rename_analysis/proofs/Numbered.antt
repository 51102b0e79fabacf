-- Numbers of ids: a table to which one was added, and what is known of an id that was met.
use Rattle.std.proofs.Common.{◌≡◌, ℕ, zero, suc, ◌<◌, Bool, true, false, ◌&&◌, Option, Some, None, List, [], ◌∷◌, ◌++◌, Bor, length, map, cond, refl, sym, ap, ◌∙◌, slice_set, arith}
use Rattle.std.specs.Option.{option_map, is_some}
use Rattle.std.specs.List.{slice_get}
use Rattle.std.specs.Cmp.{IsTotalOrder}
use Rattle.std.specs.Ordering.{is_eq, nat_cmp, ordering_then}
use Rattle.std.specs.declared.cmp.Ordering.{Ordering}
use Rattle.std.specs.declared.cmp.Ordering.TheVariants.{Less, Equal, Greater}
use Rattle.std.specs.Cmp.Lexicographic.{slice_cmp, bytes_decides, nat_list_cmp_total}
use Rattle.std.proofs.lemmas.Cmp.{nat_cmp_total}
use Rattle.swc_base_rename_analysis.specs.Hashed.{hash_of}
use Rattle.std.specs.Str.{bytes_eq}
use Rattle.std.specs.Map.{AreApart, IsKeyTest, KeepsOthers, lookup}
use Rattle.std.specs.BTreeMap as tree
use Rattle.std.specs.BTreeMap.{BTreeMap, get_by, is_at}
use Rattle.std.proofs.lemmas.Cmp.{eq_by_cmp_equiv, on_total, then_total}
use Rattle.std.proofs.lemmas.Map.Text.{is_eq-slice_cmp}
use Rattle.swc_tree_scoping.specs.BoundNames.{Id}
use Rattle.swc_base_rename_analysis.specs.declared.numbers.Entry.{Entry}
use Rattle.swc_base_rename_analysis.specs.Numbers.{Known, fresh, id_met, known_of, number_in, same_id, seen, seen_in, with_id}
use Rattle.swc_base_rename_analysis.specs.Walk.{Met}

-- equal ids
abbrev id_cmp : Id → Id → Ordering
id_cmp x y = ordering_then (slice_cmp nat_cmp x.0 y.0) (slice_cmp nat_cmp x.1 y.1)

both_equal : (o p : Ordering) → is_eq (ordering_then o p) ≡ (is_eq o && is_eq p)
both_equal Less p = refl
both_equal Equal p = refl
both_equal Greater p = refl

is_same : (x y : Id) → is_eq (id_cmp x y) ≡ same_id x y
is_same x y = both_equal (slice_cmp nat_cmp x.0 y.0) (slice_cmp nat_cmp x.1 y.1) ∙ (λ j. is_eq-slice_cmp x.0 y.0 j && is_eq-slice_cmp x.1 y.1 j)

both_so : (a b : Bool) → (a && b) ≡ true → (a ≡ true) × (b ≡ true)
both_so true b h = (refl, h)
both_so false b h = absurd (cc)

pub one_id : (x y : Id) → same_id x y ≡ true → x ≡ y
one_id x y h = let (e, f) = both_so (bytes_eq x.0 y.0) (bytes_eq x.1 y.1) h in λ j. ((bytes_decides x.0 y.0).0 e j, (bytes_decides x.1 y.1).0 f j)

pub itself : (x : Id) → same_id x x ≡ true
itself x = λ j. ((bytes_decides x.0 x.0).1 refl j) && ((bytes_decides x.1 x.1).1 refl j)

ids_total : IsTotalOrder id_cmp
ids_total = then_total (on_total (λ (x : Id). x.0) nat_list_cmp_total) (on_total (λ (x : Id). x.1) nat_list_cmp_total)

-- ids with their hashes
abbrev Hashed : Type 0
Hashed = ℕ × Id

abbrev hashed : Id → Hashed
hashed x = (hash_of x, x)

abbrev hashed_cmp : Hashed → Hashed → Ordering
hashed_cmp a b = ordering_then (nat_cmp a.0 b.0) (id_cmp a.1 b.1)

hashed_total : IsTotalOrder hashed_cmp
hashed_total = then_total (on_total (λ (a : Hashed). a.0) nat_cmp_total) (on_total (λ (a : Hashed). a.1) ids_total)

-- those that compare equal are one
is_same_hashed : (a b : Hashed) → is_eq (hashed_cmp a b) ≡ true → same_id a.1 b.1 ≡ true
is_same_hashed a b h =
    let (_, e) = both_so (is_eq (nat_cmp a.0 b.0)) (is_eq (id_cmp a.1 b.1)) (sym (both_equal (nat_cmp a.0 b.0) (id_cmp a.1 b.1)) ∙ h) in
    sym (is_same a.1 b.1) ∙ e

pub impossible : {A : Type 0} → false ≡ true → A
impossible h = absurd (cc)

not_same : (x y z : Id) → same_id x y ≡ false → same_id x z ≡ true → same_id y z ≡ true → false ≡ true
not_same x y z n e f = sym n ∙ ap (λ z. same_id z y) (one_id x z e) ∙ ap (λ w. same_id w y) (sym (one_id y z f)) ∙ itself y

-- the keys of the table
abbrev pub Key : Type 0
Key = ℕ × (Bor (List ℕ) × Bor (List ℕ))

abbrev pub id_in : Key → Id
id_in k = (k.1.0.now, k.1.1.now)

abbrev pub hashed_in : Key → Hashed
hashed_in k = (k.0, id_in k)

abbrev pub found : BTreeMap Key ℕ → Id → Option ℕ
found m x = get_by (λ k. hashed_cmp (hashed x) (hashed_in k)) m

module _ {X : Type 0} (eq : Key → Key → Bool) (test : Key → Bool) where
  other_entries : (old new : List (Key × X)) → KeepsOthers eq test old new → (other : Key → Bool) → IsKeyTest eq other → AreApart test other → lookup other new ≡ lookup other old
  unfolding KeepsOthers
  other_entries old new h = h

-- the table has the id's number, and of others what it had
number_updated : (m n : BTreeMap Key ℕ) (k : Key) (v : ℕ) → k.0 ≡ hash_of (id_in k) → tree.Updates (λ a b. hashed_cmp (hashed_in a) (hashed_in b)) m n k (Some v) → (x : Id) → found n x ≡ cond (same_id (id_in k) x) (Some v) (found m x)
number_updated m n k v own h x = by (same_id (id_in k) x) refl
  where
    no_other : same_id (id_in k) x ≡ false → (a : Key) → is_at (λ b. hashed_cmp (hashed_in k) (hashed_in b)) a ≡ true → (b : Bool) → is_at (λ b. hashed_cmp (hashed x) (hashed_in b)) a ≡ b → b ≡ false
    no_other apart a e false f = refl
    no_other apart a e true f = impossible (not_same (id_in k) x (id_in a) apart (is_same_hashed (hashed_in k) (hashed_in a) e) (is_same_hashed (hashed x) (hashed_in a) f))

    its_own : hashed (id_in k) ≡ hashed_in k
    its_own = ap (λ n. (n, id_in k)) (sym own)

    by : (b : Bool) → same_id (id_in k) x ≡ b → found n x ≡ cond b (Some v) (found m x)
    by true e = ap (found n) (sym (one_id (id_in k) x e)) ∙ ap (λ q. get_by (λ k. hashed_cmp q (hashed_in k)) n) its_own ∙ h.1
    by false e = other_entries _ _ _ _ h.3 (is_at (λ b. hashed_cmp (hashed x) (hashed_in b))) (λ a b. (eq_by_cmp_equiv hashed_total).congr (hashed x) (hashed_in a) (hashed_in b)) (λ a f. ap (λ z. z) (no_other e a f (is_at (λ b. hashed_cmp (hashed x) (hashed_in b)) a) refl))

-- the number of an id that is put behind the others
pub none_here : (b : Bool) (o : Option ℕ) → cond b (Some zero) (option_map (λ n. suc n) o) ≡ None → (b ≡ false) × (o ≡ None)
none_here true o h = absurd (cc)
none_here false None h = (refl, refl)
none_here false (Some n) h = absurd (cc)

one_more : (b : Bool) (n : ℕ) (o : Option ℕ) → option_map (λ n. suc n) (cond b (Some n) o) ≡ cond b (Some (suc n)) (option_map (λ n. suc n) o)
one_more true n o = refl
one_more false n o = refl

pub number_after : (es : List Known) (y x : Id) → number_in es y ≡ None → number_in (es ++ fresh y ∷ []) x ≡ cond (same_id y x) (Some (length es)) (number_in es x)
number_after [] y x h = refl
number_after (e ∷ es) y x h = by (number_after es y x none.1) (same_id e.id x) refl (same_id y x) refl
  where
    none : (same_id e.id y ≡ false) × (number_in es y ≡ None)
    none = none_here (same_id e.id y) (number_in es y) h

    by : number_in (es ++ fresh y ∷ []) x ≡ cond (same_id y x) (Some (length es)) (number_in es x) → (b : Bool) → same_id e.id x ≡ b → (c : Bool) → same_id y x ≡ c
        → cond b (Some zero) (option_map (λ n. suc n) (number_in (es ++ fresh y ∷ []) x)) ≡ cond c (Some (suc (length es))) (cond b (Some zero) (option_map (λ n. suc n) (number_in es x)))
    by after true f true g = impossible (not_same e.id y x none.0 f g)
    by after true f false g = refl
    by after false f c g =
        ap (option_map (λ n. suc n)) (after ∙ ap (λ c. cond c (Some (length es)) (number_in es x)) g)
        ∙ one_more c (length es) (number_in es x)

-- an id that was not in the table is added
pub added : (m n : BTreeMap Key ℕ) (k : Key) (es fs : List Known) (y : Id) (v : ℕ) → k.0 ≡ hash_of y → id_in k ≡ y → None ≡ get_by (λ b. hashed_cmp (hashed_in k) (hashed_in b)) m → v ≡ length es
    → tree.Updates (λ a b. hashed_cmp (hashed_in a) (hashed_in b)) m n k (Some v) → ((x : Id) → found m x ≡ number_in es x) → fs ≡ es ++ fresh y ∷ []
    → ((x : Id) → found n x ≡ number_in fs x) × (fs ≡ with_id es y) × (Some v ≡ number_in fs y)
added m n k es fs y v own is_key absent last updates table all = (
  numbers,
  all ∙ ap (λ o. cond (is_some o) es (es ++ fresh y ∷ [])) (sym none),
  sym (ap (λ fs. number_in fs y) all ∙ number_after es y y none ∙ ap (λ b. cond b (Some (length es)) (number_in es y)) (itself y) ∙ ap (λ n. Some n) (sym last)),
)
  where
    none : number_in es y ≡ None
    none = sym (table y) ∙ ap (λ q. get_by (λ k. hashed_cmp q (hashed_in k)) m) (λ j. (sym own j, sym is_key j)) ∙ sym absent

    numbers : (x : Id) → found n x ≡ number_in fs x
    numbers x =
        number_updated m n k v (own ∙ ap hash_of (sym is_key)) updates x
        ∙ (λ j. cond (same_id (is_key j) x) (Some (last j)) (table x j))
        ∙ sym (number_after es y x none)
        ∙ ap (λ fs. number_in fs x) (sym all)

-- entries
pub entry_added : (es : List Entry) (e : Entry) (y : Id) → known_of e ≡ fresh y → map known_of (es ++ e ∷ []) ≡ map known_of es ++ fresh y ∷ []
entry_added [] e y h = ap (λ k. k ∷ []) h
entry_added (a ∷ es) e y h = ap (λ l. known_of a ∷ l) (entry_added es e y h)

pub known_length : (es : List Entry) → length (map known_of es) ≡ length es
known_length [] = refl
known_length (e ∷ es) = ap (λ n. suc n) (known_length es)

some_same : (m n : ℕ) → Some m ≡ Some n → m ≡ n
some_same m n h = cc

-- where the number of an id is known, its entry is there
before_it : (n : ℕ) (o : Option ℕ) → Some (suc n) ≡ option_map (λ n. suc n) o → Some n ≡ o
before_it n None h = absurd (cc)
before_it n (Some m) h = let same : suc n ≡ suc m = cc in ap (λ n. Some n) (omega (arith, same))

no_first : (o : Option ℕ) → Some zero ≡ option_map (λ n. suc n) o → false ≡ true
no_first None h = absurd (cc)
no_first (Some m) h = let same : zero ≡ suc m = cc in absurd (omega (arith, same))

pub number_there : (es : List Entry) (x : Id) (n : ℕ) → Some n ≡ number_in (map known_of es) x → n < length es
number_there [] x n h = absurd (cc)
number_there (e ∷ es) x zero h = omega arith
number_there (e ∷ es) x (suc n) h = by (λ f. number_there es x n f) (same_id e.id x) h
  where
    by : (Some n ≡ number_in (map known_of es) x → n < length es) → (b : Bool) → Some (suc n) ≡ cond b (Some zero) (option_map (λ n. suc n) (number_in (map known_of es) x)) → suc n < suc (length es)
    by below true f = let same : suc n ≡ zero = cc in absurd (omega (arith, same))
    by below false f = let less = below (before_it n (number_in (map known_of es) x) f) in omega (arith, less)

-- the entry of an id that was met
pub seen_at : (k : ℕ) (m : Met) (es : List Entry) (n : ℕ) (e f : Entry) → Some n ≡ number_in (map known_of es) (id_met m) → slice_get es n ≡ Some e → known_of f ≡ seen k m (known_of e)
    → map known_of (slice_set es n f) ≡ seen_in k m (map known_of es)
seen_at k m [] n e f h g new = absurd (cc)
seen_at k m (a ∷ es) zero e f h g new = by (same_id a.id (id_met m)) h
  where
    by : (b : Bool) → Some zero ≡ cond b (Some zero) (option_map (λ n. suc n) (number_in (map known_of es) (id_met m)))
        → known_of f ∷ map known_of es ≡ cond b (seen k m (known_of a) ∷ map known_of es) (known_of a ∷ seen_in k m (map known_of es))
    by true h = let same : a ≡ e = cc in ap (λ l. l ∷ map known_of es) (new ∙ ap (λ e. seen k m (known_of e)) (sym same))
    by false h = impossible (no_first (number_in (map known_of es) (id_met m)) h)
seen_at k m (a ∷ es) (suc n) e f h g new = by (λ h. seen_at k m es n e f h g new) (same_id a.id (id_met m)) h
  where
    by : (Some n ≡ number_in (map known_of es) (id_met m) → map known_of (slice_set es n f) ≡ seen_in k m (map known_of es)) → (b : Bool) → Some (suc n) ≡ cond b (Some zero) (option_map (λ n. suc n) (number_in (map known_of es) (id_met m)))
        → known_of a ∷ map known_of (slice_set es n f) ≡ cond b (seen k m (known_of a) ∷ map known_of es) (known_of a ∷ seen_in k m (map known_of es))
    by below true h = let same : suc n ≡ zero = cc in absurd (omega (arith, same))
    by below false h = ap (λ l. known_of a ∷ l) (below (before_it n (number_in (map known_of es) (id_met m)) h))

-- numbers stay
pub numbers_stay : (k : ℕ) (m : Met) (es : List Known) (x : Id) → number_in (seen_in k m es) x ≡ number_in es x
numbers_stay k m [] x = refl
numbers_stay k m (e ∷ es) x = by (numbers_stay k m es x) (same_id e.id (id_met m))
  where
    by : number_in (seen_in k m es) x ≡ number_in es x → (b : Bool) → number_in (cond b (seen k m e ∷ es) (e ∷ seen_in k m es)) x ≡ number_in (e ∷ es) x
    by below true = refl
    by below false = ap (λ o. cond (same_id e.id x) (Some zero) (option_map (λ n. suc n) o)) below
