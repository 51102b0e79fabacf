-- The value of digits, and of a text of them.
use Rattle.std.proofs.Common.{◌≡◌, ◌+◌, ◌*◌, ◌<◌, ◌≤◌, ◌^◌, ℕ, zero, suc, ◌-◌, Bool, true, false, not, ◌&&◌, List, [], ◌∷◌, ◌++◌, length, get_or, take, drop, cond, nat_lt, Option, Some, None, refl, sym, ap, ◌∙◌, arith, append_assoc, rules}
use Rattle.std.specs.Prelude.{SomeIff, ◌==◌, nat_eq, option_map, position}
use Rattle.std.specs.Char.{digit_value}
use Rattle.std.specs.List.{list_all, suffix_len}
use Rattle.std.specs.Fmt.{decimal}
use Rattle.std.specs.Str.{IsAscii, IsUtf8}
use Rattle.std.specs.Str.Parse.{AllDigits, digits_value}
use Rattle.std.proofs.lemmas.Bool.Decides.{nat_tests}
use Rattle.std.proofs.lemmas.List.{take_all, take_rest}
use Rattle.std.proofs.lemmas.Int.Digits.{digits_value_more}
use Rattle.std.proofs.lemmas.Fmt.{decimal_is_IsNumeral_wide}
use Rattle.std.proofs.lemmas.Str.{IsAscii-take, IsUtf8-from_ascii}
use Rattle.std.proofs.lemmas.Str.Parse.{digit_from_value, digits_value-take-le}
use Rattle.swc_base_plain_numbers.specs.Numbers.{are_digits, cut, is_digit, is_zero, power, scientific, value_in}
use Rattle.swc_base_plain_numbers.specs.declared.read.Scale.{Scale}

left_true : (a b : Bool) → (a && b) ≡ true → a ≡ true
left_true true b h = refl
left_true false b h = absurd (cc)

right_true : (a b : Bool) → (a && b) ≡ true → b ≡ true
right_true true b h = h
right_true false b h = absurd (cc)

digit_is : (base c : ℕ) → is_digit base c ≡ true → digit_value c < base
digit_is base c h = grind (arith, nat_tests, h)

-- each of digits is one
pub digit_at : (base : ℕ) (ds : List ℕ) (i d : ℕ) → list_all (is_digit base) ds ≡ true → i < length ds → digit_value (get_or ds i d) < base
digit_at base [] i d all h = absurd (omega arith)
digit_at base (c ∷ cs) zero d all h = digit_is base c (left_true (is_digit base c) (list_all (is_digit base) cs) all)
digit_at base (c ∷ cs) (suc i) d all h = digit_at base cs i d (right_true (is_digit base c) (list_all (is_digit base) cs) all) (omega (arith, h))

-- with a digit more they are no larger than all
pub grown : (base : ℕ) (ds : List ℕ) (i : ℕ) → 2 ≤ base → i < length ds → digits_value base (take i ds) * base + digit_value (get_or ds i 0) ≤ digits_value base ds
grown base ds i b h = let more = digits_value_more base ds i h in let le = digits_value-take-le base ds (i + 1) (omega (arith, b)) in omega (arith, more, le)

pub ruleset valuing = (digit_at, grown, digits_value_more)

by_tests : (a b : Bool) (n : ℕ) → (a ≡ true → b ≡ true → ⊥) → None ≡ cond (a && b) (Some n) None
by_tests true true n h = absurd (h refl refl)
by_tests true false n h = refl
by_tests false b n h = refl

pub valued : (base : ℕ) (ds : List ℕ) (r : Option ℕ) → are_digits base ds ≡ true → SomeIff r (digits_value base ds < 2 ^ 128) (digits_value base ds) → r ≡ value_in base ds
valued base ds (Some n) all h =
    let short : nat_lt (digits_value base ds) (2 ^ 128) ≡ true = grind (arith, nat_tests, h.0) in
    ap Some h.1 ∙ sym (ap (λ b. cond (b && nat_lt (digits_value base ds) (2 ^ 128)) (Some (digits_value base ds)) None) all ∙ ap (λ b. cond b (Some (digits_value base ds)) None) short)
valued base ds None all h = by_tests (are_digits base ds) (nat_lt (digits_value base ds) (2 ^ 128)) (digits_value base ds) (λ _ short. h (grind (arith, nat_tests)))

-- what is at least one digit has digits alone
pub all_digits : (base : ℕ) (ds : List ℕ) → are_digits base ds ≡ true → list_all (is_digit base) ds ≡ true
all_digits base ds h = right_true (not (length ds == 0)) (list_all (is_digit base) ds) h

digits_all : (ds : List ℕ) → AllDigits 10 ds → list_all (is_digit 10) ds ≡ true
digits_all [] h = refl
digits_all (c ∷ cs) h = let first : is_digit 10 c ≡ true = grind (arith, nat_tests, h.0) in ap (λ b. b && list_all (is_digit 10) cs) first ∙ digits_all cs h.1

pub decimal_digits : (n : ℕ) → n < 2 ^ 128 → list_all (is_digit 10) (decimal n) ≡ true
decimal_digits n h = digits_all (decimal n) (decimal_is_IsNumeral_wide n (omega (arith, h))).0.1

pub digits_behind : (ds : List ℕ) (n : ℕ) → list_all (is_digit 10) ds ≡ true → list_all (is_digit 10) (drop n ds) ≡ true
digits_behind [] zero h = refl
digits_behind [] (suc n) h = refl
digits_behind (c ∷ cs) zero h = h
digits_behind (c ∷ cs) (suc n) h = digits_behind cs n (right_true (is_digit 10 c) (list_all (is_digit 10) cs) h)

digit_short : (c : ℕ) → digit_value c < 10 → c < 128
digit_short c h = let r = digit_from_value c h in omega (arith, r.1)

digits_ascii : (ds : List ℕ) → list_all (is_digit 10) ds ≡ true → (i : ℕ) → get_or ds i 0 < 128
digits_ascii [] h i = omega arith
digits_ascii (c ∷ cs) h zero = let e = left_true (is_digit 10 c) (list_all (is_digit 10) cs) h in digit_short c (digit_is 10 c e)
digits_ascii (c ∷ cs) h (suc i) = digits_ascii cs (right_true (is_digit 10 c) (list_all (is_digit 10) cs) h) i

pub text_of_digits : (ds : List ℕ) (n : ℕ) → list_all (is_digit 10) ds ≡ true → IsUtf8 (take n ds)
text_of_digits ds n h = IsUtf8-from_ascii (take n ds) (IsAscii-take ds n (digits_ascii ds h))

pub rest_is : (xs : List ℕ) (n : ℕ) → take (length xs - n) (drop n xs) ≡ drop n xs
rest_is xs n = take_rest xs n

pub cut_at : (c i : ℕ) (t : List ℕ) → Some i ≡ position (λ d. nat_eq d c) t → Some (take i t, drop (i + 1) t) ≡ cut c t
cut_at c i t h = ap (option_map (λ i. (take i t, drop (i + 1) t))) h

pub whole_value : (base v i : ℕ) (ds : List ℕ) → v ≡ digits_value base (take i ds) → length ds ≤ i → v < 2 ^ 128 → (digits_value base ds < 2 ^ 128) × (v ≡ digits_value base ds)
whole_value base v i ds h all short = let is : v ≡ digits_value base ds = h ∙ ap (digits_value base) (take_all i ds all) in (omega (arith, is, short), is)

pub scientific_is : (ds one two three : List ℕ) (e : Scale) (n : ℕ) → list_all (is_digit 10) ds ≡ true → n + suffix_len is_zero ds ≡ length ds → (IsUtf8 (take n ds) → one ≡ take n ds) → two ≡ one ++ 101 ∷ []
    → three ≡ two ++ power (e.up + (length ds - n)) e.down → three ≡ scientific ds e
scientific_is ds one two three e n digits split text letter last =
    let kept : length ds - suffix_len is_zero ds ≡ n = omega (arith, split) in
    let zeros : length ds - n ≡ suffix_len is_zero ds = omega (arith, split) in
    last ∙ ap (λ l. l ++ power (e.up + (length ds - n)) e.down) (letter ∙ ap (λ l. l ++ 101 ∷ []) (text (text_of_digits ds n digits)))
    ∙ append_assoc (take n ds) (101 ∷ []) (power (e.up + (length ds - n)) e.down) ∙ ap (λ m. take m ds ++ 101 ∷ power (e.up + (length ds - n)) e.down) (sym kept)
    ∙ ap (λ z. take (length ds - suffix_len is_zero ds) ds ++ 101 ∷ power (e.up + z) e.down) zeros
