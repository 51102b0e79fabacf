-- Numbers (ECMA-262, 12.9.3).
use Rattle.std.specs.Prelude.{ℕ, Bool, true, false, not, ◌&&◌, ◌||◌, ◌==◌, nat_le, if◌then◌else◌, List, [], ◌∷◌, drop, slice_index, Option, Some, None, Result, Ok, Err}
use Rattle.std.specs.List.{prefix_len}
use Rattle.std.specs.Char.{is_ascii_digit, is_ascii_hexdigit}
use Rattle.text_characters.specs.Characters.{first}
use Rattle.text_lexer.specs.declared.token.Fault.{Fault}
use Rattle.text_lexer.specs.declared.token.Fault.TheVariants.{BadNumber}
use Rattle.text_lexer.specs.Tokens.{Token, number, big_integer}
use Rattle.text_lexer.specs.Names.{up_to, begins_name}

abbrev pub is_octal : ℕ → Bool
is_octal c = nat_le 48 c && nat_le c 55

abbrev pub is_binary : ℕ → Bool
is_binary c = nat_le 48 c && nat_le c 49

-- what is left behind digits, between two of which a separator may stand; the text before it ends in a digit
unfoldable pub after_digits : (ℕ → Bool) → List ℕ → List ℕ
after_digits p [] = []
after_digits p (c ∷ cs) = if p c || (c == 95 && p (first cs)) then after_digits p cs else c ∷ cs

abbrev pub after_fraction : List ℕ → List ℕ
after_fraction text =
    if first text == 46 then (if is_ascii_digit (slice_index text 1) then after_digits is_ascii_digit (drop 1 text) else drop 1 text) else text

abbrev pub after_sign : List ℕ → List ℕ
after_sign text = if first text == 43 || first text == 45 then drop 1 text else text

abbrev pub after_exponent : List ℕ → List ℕ
after_exponent text =
    if (first text == 101 || first text == 69) && is_ascii_digit (first (after_sign (drop 1 text)))
    then after_digits is_ascii_digit (after_sign (drop 1 text)) else text

-- A decimal number's integer is read; what is left behind the number, and whether it is a big integer.
unfoldable pub decimal_rest : List ℕ → Bool × List ℕ
decimal_rest rest = if first rest == 110 then (true, drop 1 rest) else (false, after_exponent (after_fraction rest))

-- behind the letter of a radix
unfoldable pub radix_rest : (ℕ → Bool) → List ℕ → Option (Bool × List ℕ)
radix_rest p text =
    if not (p (first text)) then None
    else if first (after_digits p text) == 110 then Some (true, drop 1 (after_digits p text))
    else Some (false, after_digits p text)

-- what is left behind digits alone
abbrev pub after_run : (ℕ → Bool) → List ℕ → List ℕ
after_run p text = drop (prefix_len p text) text

-- Digits behind a zero: octal ones, or a decimal number if an 8 or a 9 is among them.
unfoldable pub legacy_rest : List ℕ → List ℕ
legacy_rest text =
    if is_ascii_digit (first (after_run is_octal text)) then after_exponent (after_fraction (after_run is_ascii_digit text)) else after_run is_octal text

abbrev pub is_letter : List ℕ → ℕ → ℕ → Bool
is_letter text small large = slice_index text 1 == small || slice_index text 1 == large

unfoldable pub zero_rest : List ℕ → Option (Bool × List ℕ)
zero_rest text =
    if is_letter text 120 88 then radix_rest is_ascii_hexdigit (drop 2 text)
    else if is_letter text 111 79 then radix_rest is_octal (drop 2 text)
    else if is_letter text 98 66 then radix_rest is_binary (drop 2 text)
    else if is_ascii_digit (slice_index text 1) then Some (false, legacy_rest (drop 1 text))
    else Some (decimal_rest (drop 1 text))

-- What is left behind a number, and whether it is a big integer; the text begins with one.
unfoldable pub number_rest : List ℕ → Option (Bool × List ℕ)
number_rest text =
    if first text == 48 then zero_rest text
    else if first text == 46 then Some (false, after_exponent (after_digits is_ascii_digit (drop 1 text)))
    else Some (decimal_rest (after_digits is_ascii_digit (drop 1 text)))

abbrev pub begins_number : List ℕ → Bool
begins_number text = is_ascii_digit (first text) || (first text == 46 && is_ascii_digit (slice_index text 1))

-- no name and no digit stands right behind a number
abbrev pub ends_number : List ℕ → Bool
ends_number rest = not (begins_name rest) && not (is_ascii_digit (first rest))

abbrev pub number_before : List ℕ → Option (Bool × List ℕ) → Result (Token × List ℕ) Fault
number_before text None = Err BadNumber
number_before text (Some (true, rest)) = if ends_number rest then Ok (big_integer (up_to text rest), rest) else Err BadNumber
number_before text (Some (false, rest)) = if ends_number rest then Ok (number (up_to text rest), rest) else Err BadNumber

abbrev pub number_at : List ℕ → Result (Token × List ℕ) Fault
number_at text = number_before text (number_rest text)
