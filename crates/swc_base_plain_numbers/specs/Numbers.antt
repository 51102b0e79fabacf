-- The exact value of a number literal (ECMA-262, 12.9.3), and the text that stands for it.
use Rattle.std.specs.Prelude.{◌≡◌, ℕ, ◌+◌, ◌-◌, ◌^◌, ◌==◌, Bool, true, not, ◌&&◌, Option, Some, None, List, [], ◌∷◌, ◌++◌, map, take, drop, length, codes, nat_eq, nat_lt, position, filter, option_map, option_and_then, if◌then◌else◌}
use Rattle.std.specs.Cmp.Lexicographic.{pointwise}
use Rattle.std.specs.Char.{digit_value, to_ascii_lowercase}
use Rattle.std.specs.Fmt.{decimal}
use Rattle.std.specs.List.{list_all, starts_with, suffix_len}
use Rattle.std.specs.Str.Parse.{digits_value}
use Rattle.swc_base_plain_numbers.specs.declared.read.Number.{Number}
use Rattle.swc_base_plain_numbers.specs.declared.read.Scale.{Scale}

-- in small letters, without the separators between digits
abbrev pub bare : List ℕ → List ℕ
bare t = map to_ascii_lowercase (filter (λ c. not (nat_eq c 95)) t)

abbrev pub begins : List ℕ → List ℕ → Bool
begins t with_it = starts_with nat_eq t with_it

abbrev pub is_digit : ℕ → ℕ → Bool
is_digit base c = nat_lt (digit_value c) base

-- at least one digit of the base, and no other character
abbrev pub are_digits : ℕ → List ℕ → Bool
are_digits base ds = not (length ds == 0) && list_all (is_digit base) ds

-- the value of digits, if it is below 2^128
abbrev pub value_in : ℕ → List ℕ → Option ℕ
value_in base ds = if are_digits base ds && nat_lt (digits_value base ds) (2 ^ 128) then Some (digits_value base ds) else None

-- the base and the digits of an integer that is not decimal; one that begins with `0` and has no digit above 7 is octal (B.1.1)
abbrev pub in_base : List ℕ → Option (ℕ × List ℕ)
in_base t =
    if begins t (codes "0x") then Some (16, drop 2 t) else
    if begins t (codes "0o") then Some (8, drop 2 t) else
    if begins t (codes "0b") then Some (2, drop 2 t) else
    if begins t (codes "0") && are_digits 8 t then Some (8, t) else None

-- a text before and behind the first of a character, if it is there
abbrev pub cut : ℕ → List ℕ → Option (List ℕ × List ℕ)
cut c t = option_map (λ i. (take i t, drop (i + 1) t)) (position (λ d. nat_eq d c) t)

-- an exponent below 2^32
abbrev pub power_in : List ℕ → Option ℕ
power_in ds = option_and_then (λ n. if nat_lt n (2 ^ 32) then Some n else None) (value_in 10 ds)

abbrev pub multiplied : ℕ → Scale
multiplied n = record { up = n; down = 0 }

abbrev pub divided : ℕ → Scale
divided n = record { up = 0; down = n }

-- the power of ten that an exponent is
abbrev pub exponent_in : List ℕ → Option Scale
exponent_in t =
    if begins t (codes "-") then option_map divided (power_in (drop 1 t)) else
    option_map multiplied (power_in (if begins t (codes "+") then drop 1 t else t))

-- a number: decimal digits, and the power of ten by which they are multiplied or divided
abbrev pub Scaled : Type 0
Scaled = List ℕ × Scale

abbrev pub seen : Number → Scaled
seen n = (n.digits.items, n.scale)

abbrev pub HasDigits : Number → Type 0
HasDigits n = list_all (is_digit 10) n.digits.items ≡ true

-- the digits before and behind a point
abbrev pub with_point : List ℕ → Option (List ℕ × List ℕ) → List ℕ × List ℕ
with_point t None = (t, [])
with_point t (Some p) = p

abbrev pub scaled : List ℕ × List ℕ → Scale → Option Scaled
scaled p e = if are_digits 10 (p.0 ++ p.1) then Some (p.0 ++ p.1, record { up = e.up; down = e.down + length p.1 }) else None

abbrev pub significand : List ℕ → Scale → Option Scaled
significand t e = scaled (with_point t (cut 46 t)) e

abbrev pub with_exponent : List ℕ → Option (List ℕ × List ℕ) → Option Scaled
with_exponent t None = significand t (multiplied 0)
with_exponent t (Some p) = option_and_then (significand p.0) (exponent_in p.1)

-- a decimal literal
abbrev pub decimal_in : List ℕ → Option Scaled
decimal_in t = with_exponent t (cut 101 t)

abbrev pub integer_in : ℕ × List ℕ → Option Scaled
integer_in p = option_map (λ n. (decimal n, multiplied 0)) (value_in p.0 p.1)

abbrev pub number_by : List ℕ → Option (ℕ × List ℕ) → Option Scaled
number_by t None = decimal_in t
number_by t (Some p) = integer_in p

-- what a bare text is the literal of, if it is one; of integers that are not decimal those below 2^128
abbrev pub number_in : List ℕ → Option Scaled
number_in t = number_by t (in_base t)

abbrev pub is_zero : ℕ → Bool
is_zero c = nat_eq c 48

-- a power of ten: `3`, or `-3`
abbrev pub power : ℕ → ℕ → List ℕ
power up down = if nat_lt up down then 45 ∷ decimal (down - up) else decimal (up - down)

-- digits that begin with no zero, without the zeros at their end, and the power of ten: `12e3`
abbrev pub scientific : List ℕ → Scale → List ℕ
scientific ds e = take (length ds - suffix_len is_zero ds) ds ++ 101 ∷ power (e.up + suffix_len is_zero ds) e.down

abbrev pub from_first : List ℕ → Scale → Option ℕ → List ℕ
from_first ds e None = codes "0"
from_first ds e (Some i) = scientific (drop i ds) e

-- the text of a number: each number has one
abbrev pub text_of : Scaled → List ℕ
text_of n = from_first n.0 n.1 (position (λ c. not (is_zero c)) n.0)

abbrev pub text_or : List ℕ → Option Scaled → List ℕ
text_or t None = t
text_or t (Some n) = text_of n

-- the plain text of a number literal; what is none stays as it is
abbrev pub plain_number : List ℕ → List ℕ
plain_number t = text_or t (number_in (bare t))

-- a big integer without the `n` at its end
abbrev pub without_suffix : List ℕ → List ℕ
without_suffix t = if pointwise nat_eq (drop (length t - 1) t) (codes "n") then take (length t - 1) t else t

-- the plain text of a big integer, whether it is written with its `n` or without; what is none stays as it is
abbrev pub plain_big : List ℕ → List ℕ
plain_big t = text_or t (number_in (without_suffix (bare t)))
