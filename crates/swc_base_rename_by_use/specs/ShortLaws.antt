-- The laws of short texts.
use Rattle.std.proofs.Common.{◌≡◌, ◌⊎◌, inl, inr, ℕ, zero, suc, ◌+◌, ◌-◌, ◌*◌, ◌/◌, ◌%◌, ◌<◌, ◌≤◌, ◌^◌, Bool, true, false, not, ◌&&◌, ◌||◌, ◌==◌, List, [], ◌∷◌, ◌++◌, length, map, IsTrue, refl, sym, ◌∙◌, ap, arith, nat_eq, nat_le}
use Rattle.std.specs.List.{list_all, list_any}
use Rattle.std.specs.Cmp.Lexicographic.{pointwise}
use Rattle.std.proofs.lemmas.Bool.{and_from, and_parts, false_from_ne_true}
use Rattle.std.proofs.lemmas.Bool.Decides.{nat_tests}
use Rattle.std.proofs.lemmas.List.Folds.{list_all-append}
use Rattle.std.proofs.lemmas.Slice.Eq.{bytes_eq-Decides}
use Rattle.swc_tree_grammar.specs.Writable.{begins_name, is_digit, is_identifier_text, is_letter, reserved}
use Rattle.swc_base_rename_by_use.specs.ShortTexts.{before, character, past, place, place_from, rank, short_text, text_at_place, withheld}

or_false : (a b : Bool) → a ≡ false → b ≡ false → (a || b) ≡ false
or_false a b p q = ap (λ x. x || b) p ∙ q

rank-character : (k : ℕ) → k < 64 → rank (character k) ≡ k
rank-character k small = grind (arith, nat_tests)

is_letter-character : (k : ℕ) → k < 54 → is_letter (character k) ≡ true
is_letter-character k small = grind (arith, nat_tests)

is_part-character : (k : ℕ) → k < 64 → (is_letter (character k) || is_digit (character k)) ≡ true
is_part-character k small = grind (arith, nat_tests)

-- below it are the places of texts of at most so many characters
abbrev pub limit : ℕ → ℕ
limit zero = 0
limit (suc most) = 54 + 64 * limit most

place_from-append : (p : ℕ) (cs : List ℕ) (c : ℕ) → place_from p (cs ++ c ∷ []) ≡ 54 + (64 * place_from p cs + rank c)
place_from-append p [] c = refl
place_from-append p (x ∷ cs) c = place_from-append (54 + (64 * p + rank x)) cs c

place-append : (cs : List ℕ) (c : ℕ) → begins_name cs ≡ true → place (cs ++ c ∷ []) ≡ 54 + (64 * place cs + rank c)
place-append [] c h = absurd (cc)
place-append (x ∷ cs) c h = place_from-append (rank x) cs c

begins-append : (cs : List ℕ) (c : ℕ) → begins_name cs ≡ true → (is_letter c || is_digit c) ≡ true → begins_name (cs ++ c ∷ []) ≡ true
begins-append [] c h part = absurd (cc)
begins-append (x ∷ cs) c h part =
    let parts = and_parts (is_letter x) (list_all (λ c. is_letter c || is_digit c) cs) h in
    and_from (is_letter x) _ parts.0 (list_all-append (λ c. is_letter c || is_digit c) cs (c ∷ []) ∙ and_from _ _ parts.1 (and_from _ true part refl))

text_cases : (most p : ℕ) → ((p < 54) × (text_at_place (suc most) p ≡ character p ∷ []))
    ⊎ ((54 ≤ p) × (text_at_place (suc most) p ≡ text_at_place most ((p - 54) / 64) ++ character ((p - 54) % 64) ∷ []))
text_cases most p = grind (arith, nat_tests)

pub text_longer : (most p : ℕ) → 0 < most → 54 ≤ p → text_at_place most p ≡ text_at_place (most - 1) ((p - 54) / 64) ++ character ((p - 54) % 64) ∷ []
text_longer zero p some far = absurd (omega (arith, some))
text_longer (suc most) p some far = elim (text_cases most p) [
  | inl short ↦ absurd (omega (arith, far, short.0))
  | inr long ↦ long.1 ∙ ap (λ k. text_at_place k ((p - 54) / 64) ++ character ((p - 54) % 64) ∷ []) (omega arith)
]

pub text_short : (most p : ℕ) → 0 < most → p < 54 → text_at_place most p ≡ character p ∷ []
text_short zero p some near = absurd (omega (arith, some))
text_short (suc most) p some near = elim (text_cases most p) [
  | inl short ↦ short.1
  | inr long ↦ absurd (omega (arith, near, long.0))
]

-- a text at a place begins as a name
begins : (most p : ℕ) → p < limit most → begins_name (text_at_place most p) ≡ true
begins zero p below = absurd (omega (arith, below))
begins (suc most) p below = elim (text_cases most p) [
  | inl short ↦ ap begins_name short.1 ∙ and_from _ true (is_letter-character p short.0) refl
  | inr long ↦ ap begins_name long.1 ∙ begins-append (text_at_place most ((p - 54) / 64)) _ (begins most ((p - 54) / 64) (omega (arith, below, long.0))) (is_part-character ((p - 54) % 64) (omega arith))
]

-- and is at its place
pub place-text : (most p : ℕ) → p < limit most → place (text_at_place most p) ≡ p
place-text zero p below = absurd (omega (arith, below))
place-text (suc most) p below = elim (text_cases most p) [
  | inl short ↦ ap place short.1 ∙ rank-character p (omega (arith, short.0))
  | inr long ↦
      let before : (p - 54) / 64 < limit most = omega (arith, below, long.0) in
      let at : place (text_at_place most ((p - 54) / 64)) ≡ (p - 54) / 64 = place-text most ((p - 54) / 64) before in
      let last : rank (character ((p - 54) % 64)) ≡ (p - 54) % 64 = rank-character ((p - 54) % 64) (omega arith) in
      let whole : place (text_at_place most ((p - 54) / 64) ++ character ((p - 54) % 64) ∷ []) ≡ 54 + (64 * place (text_at_place most ((p - 54) / 64)) + rank (character ((p - 54) % 64))) =
      place-append (text_at_place most ((p - 54) / 64)) (character ((p - 54) % 64)) (begins most ((p - 54) / 64) before) in
      ap place long.1 ∙ whole ∙ omega (arith, at, last, long.0)
]

-- what is past a place lies behind it, by at most as many as there are
past-rises : (qs : List ℕ) (p : ℕ) → p ≤ past qs p
past-rises [] p = omega arith
past-rises (q ∷ qs) p = grind (arith, nat_tests, past-rises qs (p + 1))

past-bound : (qs : List ℕ) (p : ℕ) → past qs p ≤ p + length qs
past-bound [] p = omega arith
past-bound (q ∷ qs) p = grind (arith, nat_tests, past-bound qs (p + 1))

past-injective : (qs : List ℕ) (m n : ℕ) → past qs m ≡ past qs n → m ≡ n
past-injective [] m n e = e
past-injective (q ∷ qs) m n e = grind (arith, nat_tests, past-injective qs (m + 1) (n + 1), past-rises qs (m + 1), past-rises qs (n + 1))

-- they rise, from one on
abbrev rise : ℕ → List ℕ → Bool
rise p [] = true
rise p (q ∷ qs) = nat_le p q && rise (q + 1) qs

lies_before : (p : ℕ) (qs : List ℕ) → rise p qs ≡ true → (i : ℕ) → i < p → list_any (λ q. q == i) qs ≡ false
lies_before p [] h i below = refl
lies_before p (q ∷ qs) h i below =
    let parts = and_parts (nat_le p q) (rise (q + 1) qs) h in
    let other : (q == i) ≡ false = grind (arith, nat_tests, parts.0) in
    or_false _ _ other (lies_before (q + 1) qs parts.1 i (grind (arith, nat_tests, parts.0)))

past_cases : (q : ℕ) (qs : List ℕ) (p : ℕ) → ((q ≤ p) × (past (q ∷ qs) p ≡ past qs (p + 1))) ⊎ ((p < q) × (past (q ∷ qs) p ≡ p))
past_cases q qs p = grind (arith, nat_tests)

-- so what is past them is none of them
past-misses : (from : ℕ) (qs : List ℕ) (p : ℕ) → rise from qs ≡ true → list_any (λ q. q == past qs p) qs ≡ false
past-misses from [] p h = refl
past-misses from (q ∷ qs) p h =
    let parts = and_parts (nat_le from q) (rise (q + 1) qs) h in
    elim (past_cases q qs p) [
      | inl before ↦
          let beyond : p + 1 ≤ past qs (p + 1) = past-rises qs (p + 1) in
          let other : (q == past qs (p + 1)) ≡ false = grind (arith, nat_tests, beyond, before.0) in
          ap (λ i. list_any (λ q. q == i) (q ∷ qs)) before.1 ∙ or_false _ _ other (past-misses (q + 1) qs (p + 1) parts.1)
      | inr after ↦
          let other : (q == p) ≡ false = grind (arith, nat_tests, after.0) in
          ap (λ i. list_any (λ q. q == i) (q ∷ qs)) after.1 ∙ or_false _ _ other (lies_before (q + 1) qs parts.1 p (omega (arith, after.0)))
    ]

before_cases : (q : ℕ) (qs : List ℕ) (p : ℕ) → ((q < p) × (before (q ∷ qs) p ≡ suc (before qs p))) ⊎ ((p ≤ q) × (before (q ∷ qs) p ≡ before qs p))
before_cases q qs p = grind (arith, nat_tests)

none_before : (from : ℕ) (qs : List ℕ) (p : ℕ) → rise from qs ≡ true → p ≤ from → before qs p ≡ 0
none_before from [] p h near = refl
none_before from (q ∷ qs) p h near =
    let parts = and_parts (nat_le from q) (rise (q + 1) qs) h in
    let reached : from ≤ q = grind (arith, nat_tests, parts.0) in
    elim (before_cases q qs p) [
      | inl far ↦ absurd (omega (arith, near, reached, far.0))
      | inr close ↦ close.1 ∙ none_before (q + 1) qs p parts.1 (omega (arith, near, reached))
    ]

-- where a place is past so many, it is told by those before it
past-before : (from : ℕ) (qs : List ℕ) (n : ℕ) → rise from qs ≡ true → past qs n ≡ n + before qs (past qs n)
past-before from [] n h = omega arith
past-before from (q ∷ qs) n h =
    let parts = and_parts (nat_le from q) (rise (q + 1) qs) h in
    elim (past_cases q qs n) [
      | inl further ↦
          let beyond : n + 1 ≤ past qs (n + 1) = past-rises qs (n + 1) in
          let told : past qs (n + 1) ≡ (n + 1) + before qs (past qs (n + 1)) = past-before (q + 1) qs (n + 1) parts.1 in
          let counted : before (q ∷ qs) (past qs (n + 1)) ≡ suc (before qs (past qs (n + 1))) = grind (arith, nat_tests, beyond, further.0) in
          further.1 ∙ told ∙ omega (arith, counted) ∙ ap (λ i. n + before (q ∷ qs) i) (sym further.1)
      | inr here ↦
          let none : before (q ∷ qs) n ≡ 0 = grind (arith, nat_tests, here.0, none_before (q + 1) qs n parts.1) in
          here.1 ∙ omega (arith, none) ∙ ap (λ i. n + before (q ∷ qs) i) (sym here.1)
    ]

abbrev places : List ℕ
places = map place withheld

-- the counter that leads to a place
pub counter_there : (n p : ℕ) → past (map place withheld) n ≡ p → p - before (map place withheld) p ≡ n
counter_there n p e =
    let told : past places n ≡ n + before places (past places n) = past-before 0 places n refl in
    let at : before places (past places n) ≡ before places p = ap (before places) e in
    omega (arith, told, at, e)

-- whether a text is one of those that are withheld, by its place
abbrev is_withheld : List ℕ → Bool
is_withheld word = list_any (λ q. q == place word) places

-- the place of a counter, and its text
bounded : (n : ℕ) → n < 2 ^ 64 → past places n < limit 11
bounded n fits = omega (arith, fits, past-bound places n)

pub place-short : (n : ℕ) → n < 2 ^ 64 → place (short_text n) ≡ past places n
place-short n fits = place-text 11 (past places n) (bounded n fits)

-- different counters give different texts
pub differ-short : (m n : ℕ) → m < 2 ^ 64 → n < 2 ^ 64 → short_text m ≡ short_text n → m ≡ n
differ-short m n p q e = past-injective places m n (sym (place-short m p) ∙ ap place e ∙ place-short n q)

-- none of them is withheld
pub none_is_withheld : {A : Type 0} (n : ℕ) (word : List ℕ) → n < 2 ^ 64 → is_withheld word ≡ true → short_text n ≡ word → A
none_is_withheld n word fits held e = absurd (
    let same : past places n ≡ place word = sym (place-short n fits) ∙ ap place e in
    let no : true ≡ false = sym held ∙ ap (λ i. list_any (λ q. q == i) places) (sym same) ∙ past-misses 0 places n refl in cc)

apart : (n : ℕ) → n < 2 ^ 64 → (word : List ℕ) → is_withheld word ≡ true → pointwise nat_eq (short_text n) word ≡ false
apart n fits word held = false_from_ne_true (pointwise nat_eq (short_text n) word) (λ same. none_is_withheld n word fits held ((bytes_eq-Decides (short_text n) word).0 same))

none_of : (n : ℕ) → n < 2 ^ 64 → (words : List (List ℕ)) → list_all (λ word. is_withheld word) words ≡ true → list_any (pointwise nat_eq (short_text n)) words ≡ false
none_of n fits [] h = refl
none_of n fits (word ∷ words) h =
    let parts = and_parts (is_withheld word) (list_all (λ word. is_withheld word) words) h in
    or_false _ _ (apart n fits word parts.0) (none_of n fits words parts.1)

-- each is an identifier's
pub identifier-short : (n : ℕ) → n < 2 ^ 64 → IsTrue (is_identifier_text (short_text n))
identifier-short n fits = and_from _ _ (begins 11 (past places n) (bounded n fits)) (ap not (none_of n fits reserved refl))
