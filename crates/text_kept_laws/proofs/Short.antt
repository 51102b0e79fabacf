-- A short text is a name that is no reserved word.
use Rattle.std.proofs.Common.{◌≡◌, ℕ, zero, suc, ◌-◌, ◌/◌, ◌%◌, ◌<◌, ◌≤◌, ◌⊎◌, inl, inr, Bool, true, false, not, ◌||◌, List, [], ◌∷◌, ◌++◌, map, refl, sym, ap, ◌∙◌, arith, nat_eq}
use Rattle.std.specs.Prelude.{encode_utf8_all, nat_lt}
use Rattle.std.specs.List.{list_all, list_any}
use Rattle.std.specs.Cmp.Lexicographic.{pointwise}
use Rattle.std.proofs.lemmas.Bool.{and_from, and_parts, false_from_ne_true}
use Rattle.std.proofs.lemmas.Bool.Decides.{nat_tests}
use Rattle.std.proofs.lemmas.List.Folds.{list_all-append}
use Rattle.std.proofs.lemmas.Slice.Eq.{bytes_eq-Decides}
use Rattle.std.proofs.lemmas.Str.{encode_ascii}
use lib.Utf8.{low_scalar, scalar, scalars}
use Rattle.text_characters.specs.Characters.{is_name_part, is_name_start}
use Rattle.text_words.specs.Words.{is_name, reserved as words}
use Rattle.swc_tree_grammar.specs.Writable.{begins_name, is_digit, is_identifier_text, is_letter, reserved}
use Rattle.swc_base_rename_by_use.specs.ShortTexts.{character, past, place, short_text, text_at_place, withheld}
use Rattle.text_kept_laws.specs.Spelling.{IsWord}
use Rattle.text_kept_laws.proofs.Numbered.{name_of, name_of_characters}

-- ---- its characters are below 128

abbrev is_low : ℕ → Bool
is_low c = nat_lt c 128

low_small : (c : ℕ) → is_low c ≡ true → c < 128
low_small c h = grind (arith, nat_tests)

low-character : (k : ℕ) → k < 64 → is_low (character k) ≡ true
low-character k small = grind (arith, nat_tests)

text_cases : (most p : ℕ) → ((p < 54) × (text_at_place (suc most) p ≡ character p ∷ []))
    ⊎ ((54 ≤ p) × (text_at_place (suc most) p ≡ text_at_place most ((p - 54) / 64) ++ character ((p - 54) % 64) ∷ []))
text_cases most p = grind (arith, nat_tests)

low_text : (most p : ℕ) → list_all is_low (text_at_place most p) ≡ true
low_text zero p = refl
low_text (suc most) p = elim (text_cases most p) [
  | inl short ↦ ap (list_all is_low) short.1 ∙ and_from _ true (low-character p (omega (arith, short.0))) refl
  | inr long ↦ ap (list_all is_low) long.1 ∙ list_all-append is_low (text_at_place most ((p - 54) / 64)) (character ((p - 54) % 64) ∷ [])
      ∙ and_from _ _ (low_text most ((p - 54) / 64)) (and_from _ true (low-character ((p - 54) % 64) (omega arith)) refl)
]

-- ---- so it is a name

letter_start : (c : ℕ) → is_low c ≡ true → is_letter c ≡ true → is_name_start c ≡ true
unfolding is_name_start
letter_start c low h = grind (arith, nat_tests)

letter_part : (c : ℕ) → is_low c ≡ true → (is_letter c || is_digit c) ≡ true → is_name_part c ≡ true
unfolding is_name_part
letter_part c low h = grind (arith, nat_tests)

low_scalars : (cs : List ℕ) → list_all is_low cs ≡ true → scalars cs ≡ true
low_scalars [] h = refl
low_scalars (c ∷ cs) h =
    let parts = and_parts (is_low c) (list_all is_low cs) h in
    let small : c < 128 = low_small c parts.0 in
    and_from (scalar c) (scalars cs) (low_scalar c (omega (arith, small))) (low_scalars cs parts.1)

low_encodes : (cs : List ℕ) → list_all is_low cs ≡ true → encode_utf8_all cs ≡ cs
low_encodes [] h = refl
low_encodes (c ∷ cs) h =
    let parts = and_parts (is_low c) (list_all is_low cs) h in
    ap (λ l. l ++ encode_utf8_all cs) (encode_ascii c (low_small c parts.0)) ∙ ap (λ l. c ∷ l) (low_encodes cs parts.1)

parts_all : (cs : List ℕ) → list_all is_low cs ≡ true → list_all (λ c. is_letter c || is_digit c) cs ≡ true → list_all is_name_part cs ≡ true
parts_all [] low h = refl
parts_all (c ∷ cs) low h =
    let small = and_parts (is_low c) (list_all is_low cs) low in
    let parts = and_parts (is_letter c || is_digit c) (list_all (λ c. is_letter c || is_digit c) cs) h in
    and_from (is_name_part c) (list_all is_name_part cs) (letter_part c small.0 parts.0) (parts_all cs small.1 parts.1)

low_name : (text : List ℕ) → list_all is_low text ≡ true → begins_name text ≡ true → is_name text ≡ true
low_name [] low h = absurd (cc)
low_name (c ∷ cs) low h =
    let small = and_parts (is_low c) (list_all is_low cs) low in
    let parts = and_parts (is_letter c) (list_all (λ c. is_letter c || is_digit c) cs) h in
    sym (ap is_name (low_encodes (c ∷ cs) low)) ∙ name_of_characters (c ∷ cs) (low_scalars (c ∷ cs) low) (name_of c cs (low_scalars (c ∷ cs) low) (letter_start c small.0 parts.0) (parts_all cs small.1 parts.1))

-- ---- and no reserved word

never : {A : Type 0} (b : Bool) → b ≡ true → b ≡ false → A
never b h n = absurd (cc)

-- what is none of some words is none of those among them
none_of_fewer : (text : List ℕ) (all : List (List ℕ)) → list_any (pointwise nat_eq text) all ≡ false → (ws : List (List ℕ)) → list_all (λ w. list_any (pointwise nat_eq w) all) ws ≡ true → list_any (pointwise nat_eq text) ws ≡ false
none_of_fewer text all none [] among = refl
none_of_fewer text all none (w ∷ ws) among =
    let parts = and_parts (list_any (pointwise nat_eq w) all) (list_all (λ w. list_any (pointwise nat_eq w) all) ws) among in
    let other : pointwise nat_eq text w ≡ false = false_from_ne_true (pointwise nat_eq text w) (λ same.
    never (list_any (pointwise nat_eq text) all) (ap (λ w. list_any (pointwise nat_eq w) all) ((bytes_eq-Decides text w).0 same) ∙ parts.0) none) in
    ap (λ b. b || list_any (pointwise nat_eq text) ws) other ∙ none_of_fewer text all none ws parts.1

not_true : (b : Bool) → not b ≡ true → b ≡ false
not_true true h = absurd (cc)
not_true false h = refl

low_word : (text : List ℕ) → list_all is_low text ≡ true → is_identifier_text text ≡ true → IsWord text
low_word text low h =
    let parts = and_parts (begins_name text) (not (list_any (pointwise nat_eq text) reserved)) h in
    (low_name text low parts.0, none_of_fewer text reserved (not_true (list_any (pointwise nat_eq text) reserved) parts.1) words refl)

pub short_word : (n : ℕ) → is_identifier_text (short_text n) ≡ true → IsWord (short_text n)
short_word n h = low_word (short_text n) (low_text 11 (past (map place withheld) n)) h
