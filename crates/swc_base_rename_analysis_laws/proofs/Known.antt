-- What some names make known of an id: the positions at which it is a name, whether one of them binds it, and whether one of
-- them stands outside of export lists. Ids have different numbers.
use Rattle.std.proofs.Common.{◌≡◌, ℕ, zero, suc, ◌<◌, Bool, true, false, ◌⊎◌, inl, inr, ⊎_elim, Option, Some, None, List, [], ◌∷◌, ◌++◌, length, cond, refl, sym, ap, ◌∙◌, subst, arith}
use Rattle.std.specs.Option.{option_map, is_some}
use Rattle.std.specs.List.{slice_get}
use Rattle.swc_tree_scoping.specs.BoundNames.{Id}
use Rattle.swc_base_rename_analysis.specs.Numbers.{Known, fresh, id_met, known_by, met_next, number_in, same_id, seen, seen_in, with_id}
use Rattle.swc_base_rename_analysis.specs.Walk.{Met}
use Rattle.swc_base_rename_analysis.proofs.Numbered.{itself, none_here, number_after, numbers_stay, one_id}
use Rattle.swc_base_rename_analysis_laws.proofs.Items.{some_same}

-- what is known of one id, by the first of some names
abbrev pub one_known_next : ℕ → Option Met → Id → Known → Known
one_known_next k None x e = e
one_known_next k (Some m) x e = cond (same_id x (id_met m)) (seen k m e) e

abbrev pub one_known : List Met → ℕ → Id → Known
one_known ms zero x = fresh x
one_known ms (suc n) x = one_known_next n (slice_get ms n) x (one_known ms n x)

-- each entry is what is known of its id, and ids are different
abbrev pub AllKnown : (Id → Known) → List Known → Type 0
AllKnown f [] = Unit {0}
AllKnown f (e ∷ es) = (e ≡ f e.id) × AllKnown f es

abbrev pub AllApart : List Known → Type 0
AllApart [] = Unit {0}
AllApart (e ∷ es) = (number_in es e.id ≡ None) × AllApart es

pub record IsKnown (f : Id → Known) (es : List Known) : Type 0 where
  pub all : AllKnown f es
  pub apart : AllApart es
  pub absent : (x : Id) → number_in es x ≡ None → f x ≡ fresh x

turned : (x y : Id) → same_id x y ≡ false → same_id y x ≡ false
turned x y h = by (same_id y x) refl
  where
    by : (b : Bool) → same_id y x ≡ b → b ≡ false
    by true e = ap (λ z. z) (sym (sym h ∙ ap (λ z. same_id z y) (sym (one_id y x e)) ∙ itself y))
    by false e = refl

-- an id that was not met
all_pushed : (f : Id → Known) (es : List Known) (y : Id) → fresh y ≡ f y → AllKnown f es → AllKnown f (es ++ fresh y ∷ [])
all_pushed f [] y h a = (h, tt)
all_pushed f (e ∷ es) y h (b, a) = (b, all_pushed f es y h a)

apart_pushed : (es : List Known) (y : Id) → number_in es y ≡ None → AllApart es → AllApart (es ++ fresh y ∷ [])
apart_pushed [] y h a = (refl, tt)
apart_pushed (e ∷ es) y h (n, a) =
    let (other, none) = none_here (same_id e.id y) (number_in es y) h in
    (number_after es y e.id none ∙ (λ j. cond (turned e.id y other j) (Some (length es)) (n j)), apart_pushed es y none a)

not_there : (b : Bool) (n : ℕ) (o : Option ℕ) → cond b (Some n) o ≡ None → o ≡ None
not_there true n o h = absurd (cc)
not_there false n o h = h

with_one : (f : Id → Known) (es : List Known) (y : Id) → IsKnown f es → IsKnown f (with_id es y)
with_one f es y k = by (number_in es y) refl
  where
    by : (o : Option ℕ) → number_in es y ≡ o → IsKnown f (cond (is_some o) es (es ++ fresh y ∷ []))
    by (Some n) e = k
    by None e = record {
      all = all_pushed f es y (sym (k.absent y e)) k.all;
      apart = apart_pushed es y e k.apart;
      absent = λ x h. k.absent x (not_there (same_id y x) (length es) (number_in es x) (sym (number_after es y x e) ∙ h));
    }

has_number : (es : List Known) (y : Id) → (n : ℕ) × (number_in (with_id es y) y ≡ Some n)
has_number es y = by (number_in es y) refl
  where
    by : (o : Option ℕ) → number_in es y ≡ o → (n : ℕ) × (number_in (cond (is_some o) es (es ++ fresh y ∷ [])) y ≡ Some n)
    by (Some n) e = (n, e)
    by None e = (length es, number_after es y y e ∙ ap (λ b. cond b (Some (length es)) (number_in es y)) (itself y))

-- a name more
abbrev after : ℕ → Met → (Id → Known) → Id → Known
after k m f x = cond (same_id x (id_met m)) (seen k m (f x)) (f x)

not_of : (es : List Known) (k : ℕ) (m : Met) (f : Id → Known) (y : Id) → same_id y (id_met m) ≡ true → number_in es y ≡ None → AllKnown f es → AllKnown (after k m f) es
not_of [] k m f y h n a = tt
not_of (e ∷ es) k m f y h n (b, a) =
    let (other, none) = none_here (same_id e.id y) (number_in es y) n in
    let away : same_id e.id (id_met m) ≡ false = ap (same_id e.id) (sym (one_id y (id_met m) h)) ∙ other in
    (b ∙ sym (ap (λ c. cond c (seen k m (f e.id)) (f e.id)) away), not_of es k m f y h none a)

all_after : (es : List Known) (k : ℕ) (m : Met) (f : Id → Known) → AllApart es → AllKnown f es → AllKnown (after k m f) (seen_in k m es)
all_after [] k m f a b = tt
all_after (e ∷ es) k m f (n, a) (b, c) = by (all_after es k m f a c) (same_id e.id (id_met m)) refl
  where
    by : AllKnown (after k m f) (seen_in k m es) → (d : Bool) → same_id e.id (id_met m) ≡ d → AllKnown (after k m f) (cond d (seen k m e ∷ es) (e ∷ seen_in k m es))
    by rest true h = (ap (seen k m) b ∙ sym (ap (λ d. cond d (seen k m (f e.id)) (f e.id)) h), not_of es k m f e.id h n c)
    by rest false h = (b ∙ sym (ap (λ d. cond d (seen k m (f e.id)) (f e.id)) h), rest)

apart_after : (es : List Known) (k : ℕ) (m : Met) → AllApart es → AllApart (seen_in k m es)
apart_after [] k m a = tt
apart_after (e ∷ es) k m (n, a) = by (apart_after es k m a) (same_id e.id (id_met m))
  where
    by : AllApart (seen_in k m es) → (d : Bool) → AllApart (cond d (seen k m e ∷ es) (e ∷ seen_in k m es))
    by rest true = (n, a)
    by rest false = (numbers_stay k m es e.id ∙ n, rest)

one_seen : (f : Id → Known) (es : List Known) (k : ℕ) (m : Met) (n : ℕ) → number_in es (id_met m) ≡ Some n → IsKnown f es → IsKnown (after k m f) (seen_in k m es)
one_seen f es k m n numbered known = record {
  all = all_after es k m f known.apart known.all;
  apart = apart_after es k m known.apart;
  absent = λ x h. by x (sym (numbers_stay k m es x) ∙ h) (same_id x (id_met m)) refl;
}
  where
    by : (x : Id) → number_in es x ≡ None → (b : Bool) → same_id x (id_met m) ≡ b → cond b (seen k m (f x)) (f x) ≡ fresh x
    by x none true e = let both : Some n ≡ None = sym numbered ∙ ap (number_in es) (sym (one_id x (id_met m) e)) ∙ none in absurd (cc)
    by x none false e = known.absent x none

next_known : (f : Id → Known) (es : List Known) (k : ℕ) (o : Option Met) → IsKnown f es → IsKnown (λ x. one_known_next k o x (f x)) (met_next k o es)
next_known f es k None known = known
next_known f es k (Some m) known = let (n, there) = has_number es (id_met m) in one_seen f (with_id es (id_met m)) k m n there (with_one f es (id_met m) known)

pub all_known : (ms : List Met) (n : ℕ) → IsKnown (one_known ms n) (known_by ms n)
all_known ms zero = record { all = tt; apart = tt; absent = λ x h. refl }
all_known ms (suc n) = next_known (one_known ms n) (known_by ms n) n (slice_get ms n) (all_known ms n)

-- numbers and entries
pub number_at : (es : List Known) → AllApart es → (k : ℕ) (e : Known) → slice_get es k ≡ Some e → number_in es e.id ≡ Some k
number_at [] a k e h = absurd (cc)
number_at (f ∷ es) a zero e h = ap (λ e. number_in (f ∷ es) e.id) (sym (some_same h)) ∙ ap (λ b. cond b (Some zero) (option_map (λ n. suc n) (number_in es f.id))) (itself f.id)
number_at (f ∷ es) (n, a) (suc k) e h = by (number_at es a k e h) (same_id f.id e.id) refl
  where
    by : number_in es e.id ≡ Some k → (b : Bool) → same_id f.id e.id ≡ b → cond b (Some zero) (option_map (λ n. suc n) (number_in es e.id)) ≡ Some (suc k)
    by there true s = let both : Some k ≡ None = sym there ∙ ap (number_in es) (sym (one_id f.id e.id s)) ∙ n in absurd (cc)
    by there false s = ap (option_map (λ n. suc n)) there

abbrev pub IsEntryAt : List Known → Id → ℕ → Type 0
IsEntryAt es x k = (e : Known) × (slice_get es k ≡ Some e) × (e.id ≡ x)

one_behind : (o : Option ℕ) (k : ℕ) → option_map (λ n. suc n) o ≡ Some (suc k) → o ≡ Some k
one_behind None k h = absurd (cc)
one_behind (Some n) k h = let same : suc n ≡ suc k = some_same h in ap (λ n. Some n) (omega (arith, same))

none_first : {A : Type 0} (o : Option ℕ) → option_map (λ n. suc n) o ≡ Some zero → A
none_first None h = absurd (cc)
none_first (Some n) h = let same : suc n ≡ zero = some_same h in absurd (omega (arith, same))

pub entry_at : (es : List Known) (x : Id) (k : ℕ) → number_in es x ≡ Some k → IsEntryAt es x k
entry_at [] x k h = absurd (cc)
entry_at (f ∷ es) x zero h = by (same_id f.id x) refl h
  where
    by : (b : Bool) → same_id f.id x ≡ b → cond b (Some zero) (option_map (λ n. suc n) (number_in es x)) ≡ Some zero → IsEntryAt (f ∷ es) x zero
    by true s h = (f, refl, one_id f.id x s)
    by false s h = none_first (number_in es x) h
entry_at (f ∷ es) x (suc k) h = by (λ g. entry_at es x k g) (same_id f.id x) h
  where
    by : (number_in es x ≡ Some k → IsEntryAt es x k) → (b : Bool) → cond b (Some zero) (option_map (λ n. suc n) (number_in es x)) ≡ Some (suc k) → IsEntryAt es x k
    by more true h = let same : zero ≡ suc k = some_same h in absurd (omega (arith, same))
    by more false h = more (one_behind (number_in es x) k h)

pub known_at : (f : Id → Known) (es : List Known) → AllKnown f es → (k : ℕ) (e : Known) → slice_get es k ≡ Some e → e ≡ f e.id
known_at f [] a k e h = absurd (cc)
known_at f (g ∷ es) (b, a) zero e h = subst (λ e. e ≡ f e.id) (some_same h) b
known_at f (g ∷ es) (b, a) (suc k) e h = known_at f es a k e h

-- a number that an id has stays
stays_with : (es : List Known) (y x : Id) (k : ℕ) → number_in es x ≡ Some k → number_in (with_id es y) x ≡ Some k
stays_with es y x k h = by (number_in es y) refl
  where
    at : number_in es y ≡ None → (b : Bool) → same_id y x ≡ b → cond b (Some (length es)) (number_in es x) ≡ Some k
    at none true e = let both : Some k ≡ None = sym h ∙ ap (number_in es) (sym (one_id y x e)) ∙ none in absurd (cc)
    at none false e = h

    by : (o : Option ℕ) → number_in es y ≡ o → number_in (cond (is_some o) es (es ++ fresh y ∷ [])) x ≡ Some k
    by (Some n) e = h
    by None e = number_after es y x e ∙ at e (same_id y x) refl

stays_next : (es : List Known) (i : ℕ) (o : Option Met) (x : Id) (k : ℕ) → number_in es x ≡ Some k → number_in (met_next i o es) x ≡ Some k
stays_next es i None x k h = h
stays_next es i (Some m) x k h = numbers_stay i m (with_id es (id_met m)) x ∙ stays_with es (id_met m) x k h

pub number_stays : (ms : List Met) (n : ℕ) (x : Id) (k : ℕ) → number_in (known_by ms n) x ≡ Some k → number_in (known_by ms (suc n)) x ≡ Some k
number_stays ms n x k h = stays_next (known_by ms n) n (slice_get ms n) x k h

next_numbered : (ms : List Met) (n : ℕ) (o : Option Met) (m : Met) → o ≡ Some m → (k : ℕ) × (number_in (met_next n o (known_by ms n)) (id_met m) ≡ Some k)
next_numbered ms n None m h = absurd (cc)
next_numbered ms n (Some o) m h =
    let (k, e) = has_number (known_by ms n) (id_met o) in
    (k, sym (ap (λ m. number_in (seen_in n o (with_id (known_by ms n) (id_met o))) (id_met m)) (some_same h)) ∙ numbers_stay n o (with_id (known_by ms n) (id_met o)) (id_met o) ∙ e)

pub before_or_last : (i n : ℕ) → i < suc n → (i < n) ⊎ (i ≡ n)
before_or_last zero zero l = inr refl
before_or_last zero (suc n) l = inl (omega arith)
before_or_last (suc i) zero l = absurd (omega (arith, l))
before_or_last (suc i) (suc n) l = ⊎_elim (λ (less : i < n). inl (omega (arith, less))) (λ (same : i ≡ n). inr (ap (λ k. suc k) same)) (before_or_last i n (omega (arith, l)))

pub is_numbered : (ms : List Met) (n i : ℕ) (m : Met) → i < n → slice_get ms i ≡ Some m → (k : ℕ) × (number_in (known_by ms n) (id_met m) ≡ Some k)
is_numbered ms zero i m l h = absurd (omega (arith, l))
is_numbered ms (suc n) i m l h = ⊎_elim
    (λ (less : i < n). let (k, e) = is_numbered ms n i m less h in (k, number_stays ms n (id_met m) k e))
    (λ (same : i ≡ n). next_numbered ms n (slice_get ms n) m (ap (slice_get ms) (sym same) ∙ h))
    (before_or_last i n l)
