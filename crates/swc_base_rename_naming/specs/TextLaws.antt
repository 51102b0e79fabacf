-- What holds of a text that a number is put behind.
use Rattle.std.proofs.Common.{◌≡◌, ℕ, ◌+◌, ◌<◌, ◌%◌, ◌^◌, ◌⊎◌, Bool, true, false, not, ◌&&◌, ◌||◌, List, [], ◌∷◌, ◌++◌, length, length-append, get_or, ◌==◌, decimal, IsTrue, refl, sym, ◌∙◌, ap, inl, inr, arith, append_assoc, nat_eq}
use Rattle.std.specs.List.{list_all, list_any}
use Rattle.std.specs.Cmp.Lexicographic.{pointwise}
use Rattle.std.proofs.lemmas.Bool.{false_from_ne_true}
use Rattle.std.proofs.lemmas.Bool.Decides.{nat_tests}
use Rattle.std.proofs.lemmas.Fmt.{decimal_by_steps, decimal_injective, decimal_nonempty}
use Rattle.std.proofs.lemmas.List.{append_cancel_left}
use Rattle.std.proofs.lemmas.List.Folds.{list_all-append}
use Rattle.std.proofs.lemmas.Slice.Eq.{bytes_eq-Decides}
use Rattle.std.proofs.Math.Bool.{or-true}
use Rattle.swc_tree_grammar.specs.Writable.{begins_name, is_digit, is_identifier_text, is_letter, reserved}
use Rattle.swc_base_rename_naming.specs.Texts.{numbered}

both_true : (a b : Bool) → a ≡ true → b ≡ true → (a && b) ≡ true
both_true a b p q = ap (λ x. x && b) p ∙ q

both_of : (a b : Bool) → (a && b) ≡ true → (a ≡ true) × (b ≡ true)
both_of true b h = (refl, h)
both_of false b h = absurd (cc)

both_false : (a b : Bool) → a ≡ false → b ≡ false → (a || b) ≡ false
both_false a b p q = ap (λ x. x || b) p ∙ q

neither : (a b : Bool) → (a || b) ≡ false → (a ≡ false) × (b ≡ false)
neither true b h = absurd (cc)
neither false b h = (refl, h)

-- whether a text ends in a digit, and for the empty one what is said
abbrev pub ends_from : Bool → List ℕ → Bool
ends_from b [] = b
ends_from b (c ∷ cs) = ends_from (is_digit c) cs

abbrev pub ends_in_digit : List ℕ → Bool
ends_in_digit = ends_from false

ends-append : (b : Bool) (xs : List ℕ) (d : ℕ) → ends_from b (xs ++ d ∷ []) ≡ is_digit d
ends-append b [] d = refl
ends-append b (x ∷ xs) d = ends-append (is_digit x) xs d

is_digit-of : (d : ℕ) → d < 10 → is_digit (48 + d) ≡ true
is_digit-of d small = grind (arith, nat_tests)

-- a text that a number is put behind ends in a digit
pub ends-decimal : (n : ℕ) → n < 2 ^ 64 → (xs : List ℕ) → ends_in_digit (xs ++ decimal n) ≡ true
ends-decimal = decimal_by_steps (λ n ds. (xs : List ℕ) → ends_in_digit (xs ++ ds) ≡ true)
    (λ n small xs. ends-append false xs (48 + n) ∙ is_digit-of n small)
    (λ n ds ten before xs. ap ends_in_digit (sym (append_assoc xs ds ((48 + n % 10) ∷ []))) ∙ ends-append false (xs ++ ds) (48 + n % 10) ∙ is_digit-of (n % 10) (omega arith))

-- which characters may stand in a name
abbrev is_part : ℕ → Bool
is_part c = is_letter c || is_digit c

is_part-of : (d : ℕ) → d < 10 → is_part (48 + d) ≡ true
is_part-of d small = ap (λ b. is_letter (48 + d) || b) (is_digit-of d small) ∙ or-true (is_letter (48 + d))

parts-decimal : (n : ℕ) → n < 2 ^ 64 → list_all is_part (decimal n) ≡ true
parts-decimal = decimal_by_steps (λ n ds. list_all is_part ds ≡ true)
    (λ n small. both_true (is_part (48 + n)) true (is_part-of n small) refl)
    (λ n ds ten before. list_all-append is_part ds ((48 + n % 10) ∷ []) ∙ both_true _ _ before (both_true (is_part (48 + n % 10)) true (is_part-of (n % 10) (omega arith)) refl))

begins-decimal : (text : List ℕ) (n : ℕ) → n < 2 ^ 64 → begins_name text ≡ true → begins_name (text ++ decimal n) ≡ true
begins-decimal [] n fits h = absurd (cc)
begins-decimal (c ∷ cs) n fits h =
    let parts = both_of (is_letter c) (list_all is_part cs) h in
    both_true (is_letter c) _ parts.0 (list_all-append is_part cs (decimal n) ∙ both_true _ _ parts.1 (parts-decimal n fits))

apart : (test : List ℕ → Bool) (text word : List ℕ) → test text ≡ true → test word ≡ false → pointwise nat_eq text word ≡ false
apart test text word passes fails = false_from_ne_true (pointwise nat_eq text word) (λ same.
    let is_true : true ≡ false = sym passes ∙ ap test ((bytes_eq-Decides text word).0 same) ∙ fails in cc)

-- a text that passes a test is none of those that do not
is_none_of : (test : List ℕ → Bool) (text : List ℕ) → test text ≡ true → (words : List (List ℕ)) → list_any test words ≡ false → list_any (pointwise nat_eq text) words ≡ false
is_none_of test text passes [] none = refl
is_none_of test text passes (w ∷ ws) none =
    let others = neither (test w) (list_any test ws) none in
    both_false _ _ (apart test text w passes others.0) (is_none_of test text passes ws others.1)

-- what begins as a name is an identifier's text with a number behind it
pub identifier-decimal : (text : List ℕ) (n : ℕ) → n < 2 ^ 64 → IsTrue (begins_name text) → IsTrue (is_identifier_text (text ++ decimal n))
identifier-decimal text n fits h = both_true _ _ (begins-decimal text n fits h) (ap not (is_none_of ends_in_digit (text ++ decimal n) (ends-decimal n fits text) reserved refl))

-- a number behind it tells texts apart
pub differ-decimal : (text : List ℕ) (m n : ℕ) → m < 2 ^ 64 → n < 2 ^ 64 → text ++ decimal m ≡ text ++ decimal n → m ≡ n
differ-decimal text m n p q e = decimal_injective m n p q (append_cancel_left text (decimal m) (decimal n) e)

-- a text that does not end in a digit is none with a number behind it
pub is_none-decimal : {A : Type 0} (text word : List ℕ) (n : ℕ) → n < 2 ^ 64 → ends_in_digit word ≡ false → text ++ decimal n ≡ word → A
is_none-decimal text word n fits other e = absurd (let is_true : true ≡ false = sym (ends-decimal n fits text) ∙ ap ends_in_digit e ∙ other in cc)

numbered_cases : (text : List ℕ) (n : ℕ) → ((n ≡ 0) × (numbered text n ≡ text)) ⊎ ((0 < n) × (numbered text n ≡ text ++ decimal n))
numbered_cases text n = grind (arith, nat_tests)

longer : (text : List ℕ) (n : ℕ) → n < 2 ^ 64 → text ≡ text ++ decimal n → ⊥
longer text n fits e = omega (arith, decimal_nonempty n fits, length-append text (decimal n), ap length e)

-- different counters give different texts
pub differ-numbered : (text : List ℕ) (m n : ℕ) → m < 2 ^ 64 → n < 2 ^ 64 → numbered text m ≡ numbered text n → m ≡ n
differ-numbered text m n p q e = elim (numbered_cases text m) [
  | inl a ↦ elim (numbered_cases text n) [ inl b ↦ a.0 ∙ sym b.0 | inr b ↦ absurd (longer text n q (sym a.1 ∙ e ∙ b.1)) ]
  | inr a ↦ elim (numbered_cases text n) [ inl b ↦ absurd (longer text m p (sym b.1 ∙ sym e ∙ a.1)) | inr b ↦ differ-decimal text m n p q (sym a.1 ∙ e ∙ b.1) ]
]

first-numbered : (c n : ℕ) → get_or (numbered (c ∷ []) n) 0 0 ≡ c
first-numbered c n = elim (numbered_cases (c ∷ []) n) [ inl a ↦ ap (λ t. get_or t 0 0) a.1 | inr a ↦ ap (λ t. get_or t 0 0) a.1 ]

-- of one letter, with or without a number behind it, the text tells the letter and the counter
pub differ-letters : (c d m n : ℕ) → m < 2 ^ 64 → n < 2 ^ 64 → numbered (c ∷ []) m ≡ numbered (d ∷ []) n → (c ≡ d) × (m ≡ n)
differ-letters c d m n p q e =
    let same : c ≡ d = sym (first-numbered c m) ∙ ap (λ t. get_or t 0 0) e ∙ first-numbered d n in
    (same, differ-numbered (c ∷ []) m n p q (e ∙ ap (λ c. numbered (c ∷ []) n) (sym same)))

-- one letter is an identifier's text
pub identifier-letter : (c : ℕ) → is_letter c ≡ true → IsTrue (is_identifier_text (c ∷ []))
identifier-letter c h = both_true _ _ (both_true _ true h refl) (ap not (is_none_of (λ t. length t == 1) (c ∷ []) refl reserved refl))

-- an identifier's text stays one
pub identifier-numbered : (text : List ℕ) (n : ℕ) → n < 2 ^ 64 → IsTrue (is_identifier_text text) → IsTrue (is_identifier_text (numbered text n))
identifier-numbered text n fits h = elim (numbered_cases text n) [
  | inl a ↦ ap is_identifier_text a.1 ∙ h
  | inr a ↦ ap is_identifier_text a.1 ∙ identifier-decimal text n fits (both_of (begins_name text) _ h).0
]

-- a text that does not end in a digit comes from itself alone
pub word-numbered : (text word : List ℕ) (n : ℕ) → n < 2 ^ 64 → ends_in_digit word ≡ false → numbered text n ≡ word → text ≡ word
word-numbered text word n fits other e = elim (numbered_cases text n) [
  | inl a ↦ sym a.1 ∙ e
  | inr a ↦ is_none-decimal text word n fits other (sym a.1 ∙ e)
]

-- a longer word that does not end in a digit is no text of one letter
pub no_word-letter : {A : Type 0} (c n : ℕ) (word : List ℕ) → n < 2 ^ 64 → ends_in_digit word ≡ false → (length word == 1) ≡ false → numbered (c ∷ []) n ≡ word → A
no_word-letter c n word fits no_digit longer e = absurd (let is_true : true ≡ false = ap (λ t. length t == 1) (word-numbered (c ∷ []) word n fits no_digit e) ∙ longer in cc)
