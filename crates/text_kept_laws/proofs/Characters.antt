-- The first character of a text in UTF-8, by its bytes.
use Rattle.std.proofs.Common.{◌≡◌, ℕ, ◌+◌, ◌*◌, ◌/◌, ◌%◌, ◌<◌, ◌≤◌, ◌⊎◌, inl, inr, Bool, true, false, cond, ◌||◌, ◌==◌, Option, Some, None, List, [], ◌∷◌, ◌++◌, drop, le-ltb, lt-ltb, refl, sym, ap, ◌∙◌, subst, arith}
use Rattle.std.specs.Prelude.{nat_lt}
use Rattle.std.specs.List.{list_any}
use Rattle.std.specs.Char.{IsScalar, encode_utf8}
use Rattle.std.proofs.lemmas.Bool.{cases_lt, cond-false, cond-true}
use Rattle.std.proofs.lemmas.Bool.Decides.{nat_tests}
use Rattle.std.proofs.lemmas.Str.{encode_ascii}
use lib.Utf8.{scalar_cases}
use Rattle.text_characters.specs.Characters.{behind, first, point, point_of, width}
use Rattle.text_lexer.specs.Names.{is_named, name_character}

-- what is seen of a text that begins with a character
record Begins (c : ℕ) (rest text : List ℕ) : Type 0 where
  point_is : point text ≡ c
  behind_is : behind text ≡ rest
  no_escape : (c == 92) ≡ false → (first text == 92) ≡ false

one : (c : ℕ) (z : List ℕ) → c < 128 → Begins c z (c ∷ z)
unfolding point_of
one c z low = record {
  point_is = cond-true (nat_lt c 128) _ _ (lt-ltb c 128 low);
  behind_is = ap (λ n. drop n (c ∷ z)) (cond-true (nat_lt c 128) 1 _ (lt-ltb c 128 low));
  no_escape = λ h. h;
}

width_two : (a : ℕ) → 128 ≤ a → a < 224 → width a ≡ 2
width_two a low high = cond-false (nat_lt a 128) _ _ (le-ltb a 128 low) ∙ cond-true (nat_lt a 224) _ _ (lt-ltb a 224 high)

width_three : (a : ℕ) → 224 ≤ a → a < 240 → width a ≡ 3
width_three a low high = cond-false (nat_lt a 128) _ _ (le-ltb a 128 (omega (arith, low))) ∙ cond-false (nat_lt a 224) _ _ (le-ltb a 224 low) ∙ cond-true (nat_lt a 240) _ _ (lt-ltb a 240 high)

width_four : (a : ℕ) → 240 ≤ a → width a ≡ 4
width_four a low = cond-false (nat_lt a 128) _ _ (le-ltb a 128 (omega (arith, low))) ∙ cond-false (nat_lt a 224) _ _ (le-ltb a 224 (omega (arith, low))) ∙ cond-false (nat_lt a 240) _ _ (le-ltb a 240 low)

no_backslash : (a : ℕ) → 128 ≤ a → (a == 92) ≡ false
no_backslash a low = grind (arith, nat_tests)

two : (c : ℕ) (z : List ℕ) → 128 ≤ c → c < 2048 → Begins c z ((192 + c / 64) ∷ (128 + c % 64) ∷ z)
unfolding point_of
two c z low high =
    let a : ℕ = 192 + c / 64 in
    let more : 128 ≤ a = omega arith in
    let less : a < 224 = omega (arith, high) in
    record {
      point_is = cond-false (nat_lt a 128) _ _ (le-ltb a 128 more) ∙ cond-true (nat_lt a 224) _ _ (lt-ltb a 224 less) ∙ omega (arith, high);
      behind_is = ap (λ n. drop n (a ∷ (128 + c % 64) ∷ z)) (width_two a more less);
      no_escape = λ h. no_backslash a more;
    }

three : (c : ℕ) (z : List ℕ) → 2048 ≤ c → c < 65536 → Begins c z ((224 + c / 4096) ∷ (128 + (c / 64) % 64) ∷ (128 + c % 64) ∷ z)
unfolding point_of
three c z low high =
    let a : ℕ = 224 + c / 4096 in
    let more : 224 ≤ a = omega arith in
    let past : 128 ≤ a = omega arith in
    let less : a < 240 = omega (arith, high) in
    record {
      point_is = cond-false (nat_lt a 128) _ _ (le-ltb a 128 past) ∙ cond-false (nat_lt a 224) _ _ (le-ltb a 224 more) ∙ cond-true (nat_lt a 240) _ _ (lt-ltb a 240 less) ∙ omega (arith, high);
      behind_is = ap (λ n. drop n (a ∷ (128 + (c / 64) % 64) ∷ (128 + c % 64) ∷ z)) (width_three a more less);
      no_escape = λ h. no_backslash a past;
    }

four : (c : ℕ) (z : List ℕ) → 65536 ≤ c → c < 1114112 → Begins c z ((240 + c / 262144) ∷ (128 + (c / 4096) % 64) ∷ (128 + (c / 64) % 64) ∷ (128 + c % 64) ∷ z)
unfolding point_of
four c z low high =
    let a : ℕ = 240 + c / 262144 in
    let more : 240 ≤ a = omega arith in
    let past : 128 ≤ a = omega arith in
    let over : 224 ≤ a = omega arith in
    record {
      point_is = cond-false (nat_lt a 128) _ _ (le-ltb a 128 past) ∙ cond-false (nat_lt a 224) _ _ (le-ltb a 224 over) ∙ cond-false (nat_lt a 240) _ _ (le-ltb a 240 more) ∙ omega (arith, high);
      behind_is = ap (λ n. drop n (a ∷ (128 + (c / 4096) % 64) ∷ (128 + (c / 64) % 64) ∷ (128 + c % 64) ∷ z)) (width_four a more);
      no_escape = λ h. no_backslash a past;
    }

-- ---- the bytes of a character

encode_two : (c : ℕ) → 128 ≤ c → c < 2048 → encode_utf8 c ≡ (192 + c / 64) ∷ (128 + c % 64) ∷ []
unfolding encode_utf8
encode_two c low high = cond-false _ _ _ (le-ltb c 128 low) ∙ cond-true _ _ _ (lt-ltb c 2048 high)

encode_three : (c : ℕ) → 2048 ≤ c → c < 65536 → encode_utf8 c ≡ (224 + c / 4096) ∷ (128 + (c / 64) % 64) ∷ (128 + c % 64) ∷ []
unfolding encode_utf8
encode_three c low high = cond-false _ _ _ (le-ltb c 128 (omega (arith, low))) ∙ cond-false _ _ _ (le-ltb c 2048 low) ∙ cond-true _ _ _ (lt-ltb c 65536 high)

encode_four : (c : ℕ) → 65536 ≤ c → encode_utf8 c ≡ (240 + c / 262144) ∷ (128 + (c / 4096) % 64) ∷ (128 + (c / 64) % 64) ∷ (128 + c % 64) ∷ []
unfolding encode_utf8
encode_four c low = cond-false _ _ _ (le-ltb c 128 (omega (arith, low))) ∙ cond-false _ _ _ (le-ltb c 2048 (omega (arith, low))) ∙ cond-false _ _ _ (le-ltb c 65536 low)

in_range : (c : ℕ) → IsScalar c → c < 1114112
in_range c s = by (scalar_cases c s)
  where
    by : (c < 55296) ⊎ ((57344 ≤ c) × (c < 1114112)) → c < 1114112
    by (inl h) = omega (arith, h)
    by (inr h) = h.1

begins : (c : ℕ) (z : List ℕ) → IsScalar c → Begins c z (encode_utf8 c ++ z)
begins c z s = small (cases_lt c 128)
  where
    large : 2048 ≤ c → (c < 65536) ⊎ (65536 ≤ c) → Begins c z (encode_utf8 c ++ z)
    large low (inl high) = subst (λ l. Begins c z (l ++ z)) (sym (encode_three c low high)) (three c z low high)
    large low (inr more) = subst (λ l. Begins c z (l ++ z)) (sym (encode_four c more)) (four c z more (in_range c s))

    middle : 128 ≤ c → (c < 2048) ⊎ (2048 ≤ c) → Begins c z (encode_utf8 c ++ z)
    middle low (inl high) = subst (λ l. Begins c z (l ++ z)) (sym (encode_two c low high)) (two c z low high)
    middle low (inr more) = large more (cases_lt c 65536)

    small : (c < 128) ⊎ (128 ≤ c) → Begins c z (encode_utf8 c ++ z)
    small (inl low) = subst (λ l. Begins c z (l ++ z)) (sym (encode_ascii c low)) (one c z low)
    small (inr more) = middle more (cases_lt c 2048)

-- none of its bytes is a backslash
pub bytes_plain : (c : ℕ) → IsScalar c → (c == 92) ≡ false → list_any (λ b. b == 92) (encode_utf8 c) ≡ false
bytes_plain c s n = small (cases_lt c 128)
  where
    plain : (a b : ℕ) → 128 ≤ a → 128 ≤ b → list_any (λ b. b == 92) (a ∷ b ∷ []) ≡ false
    plain a b h g = rw (no_backslash a h, no_backslash b g) refl

    large : 2048 ≤ c → (c < 65536) ⊎ (65536 ≤ c) → list_any (λ b. b == 92) (encode_utf8 c) ≡ false
    large low (inl high) =
        ap (list_any (λ b. b == 92)) (encode_three c low high)
        ∙ ap (λ x. x || list_any (λ b. b == 92) ((128 + (c / 64) % 64) ∷ (128 + c % 64) ∷ [])) (no_backslash (224 + c / 4096) (omega arith))
        ∙ plain (128 + (c / 64) % 64) (128 + c % 64) (omega arith) (omega arith)
    large low (inr more) =
        ap (list_any (λ b. b == 92)) (encode_four c more)
        ∙ ap (λ x. x || list_any (λ b. b == 92) ((128 + (c / 4096) % 64) ∷ (128 + (c / 64) % 64) ∷ (128 + c % 64) ∷ [])) (no_backslash (240 + c / 262144) (omega arith))
        ∙ ap (λ x. x || list_any (λ b. b == 92) ((128 + (c / 64) % 64) ∷ (128 + c % 64) ∷ [])) (no_backslash (128 + (c / 4096) % 64) (omega arith))
        ∙ plain (128 + (c / 64) % 64) (128 + c % 64) (omega arith) (omega arith)

    middle : 128 ≤ c → (c < 2048) ⊎ (2048 ≤ c) → list_any (λ b. b == 92) (encode_utf8 c) ≡ false
    middle low (inl high) = ap (list_any (λ b. b == 92)) (encode_two c low high) ∙ plain (192 + c / 64) (128 + c % 64) (omega arith) (omega arith)
    middle low (inr more) = large more (cases_lt c 65536)

    small : (c < 128) ⊎ (128 ≤ c) → list_any (λ b. b == 92) (encode_utf8 c) ≡ false
    small (inl low) = ap (list_any (λ b. b == 92)) (encode_ascii c low) ∙ ap (λ x. x || false) n
    small (inr more) = middle more (cases_lt c 2048)

-- a character that is no backslash is a name's where its code point is
pub character : (start : Bool) (c : ℕ) (z : List ℕ) → IsScalar c → (c == 92) ≡ false → name_character start (encode_utf8 c ++ z) ≡ cond (is_named start c) (Some z) None
unfolding name_character
character start c z s n =
    let b = begins c z s in
    cond-false (first (encode_utf8 c ++ z) == 92) _ _ (b.no_escape n)
    ∙ ap (λ p. cond (is_named start p) (Some (behind (encode_utf8 c ++ z))) None) b.point_is
    ∙ ap (λ l. cond (is_named start c) (Some l) None) b.behind_is
