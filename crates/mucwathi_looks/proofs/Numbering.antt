-- A variable gets a number of its own.
use Rattle.std.proofs.Common.{◌≡◌, ℕ, ◌+◌, ◌<◌, ◌⊎◌, inl, inr, Bool, true, false, true≢false, cond, if◌then◌else◌, is_some, List, [], ◌∷◌, ◌++◌, Contains, Option, Some, None, IsSome, Bor, refl, sym, ap, ◌∙◌, subst, arith}
use Rattle.std.proofs.lemmas.List.Elements.{Contains-append_cases, Contains-push_cases}
use Rattle.std.proofs.lemmas.Map.Lookups.{exact_bytes, exact_pairs, exact_unsigned}
use Rattle.std.proofs.lemmas.Map.Views.{tells_apart}
use Rattle.std.specs.BTreeMap.{Updates, btree_map_len, get, is_at}
use Rattle.std.specs.Map.{lookup}
use Rattle.std.specs.Cmp.Lexicographic.{slice_cmp}
use Rattle.std.specs.Option.{option_map}
use Rattle.std.specs.Ordering.{is_eq, nat_cmp}
use Rattle.mucwathi_looks.specs.Coloured.{Variable}
use Rattle.mucwathi_looks.specs.Numbered.{AreApart, AreNumbered, Keeps, Key, Knows, KnowsAll, Numbers, key_cmp, key_of, variable_in}

abbrev is_same : Key → Key → Bool
is_same k l = is_eq (key_cmp k l)

-- keys that compare as equal are one variable's
one_variable : (k l : Key) → is_same k l ≡ true → variable_in k ≡ variable_in l
one_variable k l h = tells_apart (exact_pairs nat_cmp (slice_cmp nat_cmp) exact_unsigned exact_bytes) (variable_in k) (variable_in l) h

some_is : (n m : ℕ) → Some n ≡ Some m → n ≡ m
some_is n m h = ap (λ o. elim o as (λ x. ℕ) [ None ↦ n | Some x ↦ x ]) h

-- what was found is the number that was inserted, or was found before
abbrev Was : Numbers → Key → ℕ → Key → ℕ → Type 0
Was old key number k n = ((is_same key k ≡ true) × (n ≡ number)) ⊎ (get key_cmp old k ≡ Some n)

was : (old new : Numbers) (key : Key) (number : ℕ) → Updates key_cmp old new key (Some number) → (k : Key) (n : ℕ) → get key_cmp new k ≡ Some n → Was old key number k n
was old new key number updates k n h =
    elim (is_same key k) as (λ b. is_same key k ≡ b → cond b (Some number) (get key_cmp old k) ≡ Some n → Was old key number k n) [ true ↦ λ e g. inl (e, sym (some_is number n g)) | false ↦ λ e g. inr g ] refl (sym (updates.0 k) ∙ h)

too_low : (n number len : ℕ) → n ≡ number → number ≡ len → n < len → ⊥
too_low n number len a b h = omega arith

apart_from : (old : Numbers) (key : Key) (number : ℕ) → number ≡ btree_map_len old → AreApart old → (k l : Key) (n : ℕ) → Was old key number k n → Was old key number l n → variable_in k ≡ variable_in l
apart_from old key number is h k l n (inl a) (inl b) = sym (one_variable key k a.0) ∙ one_variable key l b.0
apart_from old key number is h k l n (inl a) (inr b) = absurd (too_low n number (btree_map_len old) a.1 is (h.below l n b))
apart_from old key number is h k l n (inr a) (inl b) = absurd (too_low n number (btree_map_len old) b.1 is (h.below k n a))
apart_from old key number is h k l n (inr a) (inr b) = h.apart k l n a b

below_from : (old : Numbers) (key : Key) (number len : ℕ) → number < len → ((n : ℕ) → n < btree_map_len old → n < len) → AreApart old → (k : Key) (n : ℕ) → Was old key number k n → n < len
below_from old key number len low more h k n (inl a) = subst (λ m. m < len) (sym a.1) low
below_from old key number len low more h k n (inr a) = more n (h.below k n a)

pub still_apart : (old new : Numbers) (key : Key) (number : ℕ) → number ≡ btree_map_len old → btree_map_len new ≡ btree_map_len old + 1 → Updates key_cmp old new key (Some number) → AreApart old → AreApart new
still_apart old new key number is long updates h = record {
  apart = λ k l n e g. apart_from old key number is h k l n (was old new key number updates k n e) (was old new key number updates l n g);
  below = λ k n e. below_from old key number (btree_map_len new) (omega arith) (λ m low. omega arith) h k n (was old new key number updates k n e);
}

none_is : (n : ℕ) → None ≡ Some n → ⊥
none_is n h = true≢false (sym (ap is_some h))

pub kept : (old new : Numbers) (key : Key) (number : ℕ) → get key_cmp old key ≡ None → Updates key_cmp old new key (Some number) → Keeps old new
kept old new key number absent updates k n h =
    updates.0 k
    ∙ elim (is_same key k) as (λ b. is_same key k ≡ b → cond b (Some number) (get key_cmp old k) ≡ Some n) [
      | true ↦ λ e. absurd (none_is n (sym absent ∙ ap (λ v. get key_cmp old (key_of v)) (one_variable key k e) ∙ h))
      | false ↦ λ e. h
    ] refl

pub not_there : (r : Option (Bor ℕ)) (o : Option ℕ) → is_some r ≡ false → option_map (λ b. b.now) r ≡ o → o ≡ None
not_there None o h k = sym k
not_there (Some b) o h k = absurd (true≢false h)

pub longer : (old new : ℕ) (o before : Option ℕ) → before ≡ None → o ≡ before → new ≡ old + (if is_some o then 0 else 1) → new ≡ old + 1
longer old new o before absent same h = h ∙ ap (λ p. old + (if is_some p then 0 else 1)) (same ∙ absent)

nothing : (numbers : Numbers) → numbers.entries ≡ [] → (k : Key) → get key_cmp numbers k ≡ None
nothing numbers empty k = ap (λ es. lookup (is_at (key_cmp k)) es) empty

-- variables that are known stay so, and one more is
pub none_numbered : (numbers : Numbers) → numbers.entries ≡ [] → AreNumbered [] numbers
none_numbered numbers empty = record {
  apart = record { apart = λ k l n e g. absurd (none_is n (sym (nothing numbers empty k) ∙ e)); below = λ k n e. absurd (none_is n (sym (nothing numbers empty k) ∙ e)) };
  known = λ v h. absurd (too_low h.0 h.0 0 refl (omega (arith, h.1)) h.1);
}

still_known : (old new : Numbers) → Keeps old new → (k : Key) (o : Option ℕ) → get key_cmp old k ≡ o → IsSome o → IsSome (get key_cmp new k)
still_known old new keeps k None is h = absurd (true≢false (sym h))
still_known old new keeps k (Some n) is h = subst IsSome (sym (keeps k n is)) h

known_of : (old new : Numbers) (vs ws : List Variable) → Keeps old new → KnowsAll old vs → KnowsAll new ws → (v : Variable) → Contains vs v ⊎ Contains ws v → IsSome (get key_cmp new (key_of v))
known_of old new vs ws keeps h more v (inl a) = still_known old new keeps (key_of v) (get key_cmp old (key_of v)) refl (h v a)
known_of old new vs ws keeps h more v (inr b) = more v b

-- one variable's names
knows_this : (numbers : Numbers) (k : Key) → Knows numbers k → (v : Variable) → Contains [] v ⊎ (variable_in k ≡ v) → IsSome (get key_cmp numbers (key_of v))
knows_this numbers k known v (inl a) = absurd (too_low a.0 a.0 0 refl (omega (arith, a.1)) a.1)
knows_this numbers k known v (inr is) = subst (λ w. IsSome (get key_cmp numbers (key_of w))) is known

pub knows_one : (numbers : Numbers) (k : Key) → Knows numbers k → KnowsAll numbers (variable_in k ∷ [])
knows_one numbers k known v h = knows_this numbers k known v (Contains-push_cases [] (variable_in k) v h)

pub more_numbered : (vs ws all : List Variable) (old new : Numbers) → all ≡ vs ++ ws → AreNumbered vs old → AreApart new → Keeps old new → KnowsAll new ws → AreNumbered all new
more_numbered vs ws all old new is h apart keeps known = subst (λ l. AreNumbered l new) (sym is) (record { apart = apart; known = λ v there. known_of old new vs ws keeps h.known known v (Contains-append_cases vs ws v there) })
