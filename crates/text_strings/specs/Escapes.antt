-- What stands in strings and templates, an escape or a character at a time (ECMA-262, 12.9.4 and 12.9.6).
use Rattle.std.specs.Prelude.{ℕ, ◌+◌, ◌*◌, ◌-◌, Bool, true, false, not, ◌&&◌, ◌==◌, nat_lt, nat_le, if◌then◌else◌, List, [], ◌∷◌, length, slice_index, drop, Option, Some, None, option_map}
use Rattle.std.specs.Char.{digit_value, is_ascii_digit, is_ascii_hexdigit}
use Rattle.text_characters.specs.Characters.{first, begins_line_end, after_line_end}
use Rattle.text_strings.specs.declared.escape.Reading.{Reading}
use Rattle.text_strings.specs.declared.escape.Reading.TheVariants.{Quoted, Template}
use Rattle.text_strings.specs.declared.escape.Unit.{Unit}
use Rattle.text_strings.specs.declared.escape.Unit.TheVariants.{Nothing, Byte, Point}

-- the value of two digits, where the text begins with them
unfoldable pub two_digits_at : List ℕ → Option ℕ
two_digits_at text =
    if is_ascii_hexdigit (first text) && is_ascii_hexdigit (slice_index text 1)
    then Some (digit_value (first text) * 16 + digit_value (slice_index text 1))
    else None

abbrev pub four_behind : List ℕ → Option ℕ → Option ℕ → Option (ℕ × List ℕ)
four_behind text None low = None
four_behind text (Some high) None = None
four_behind text (Some high) (Some low) = Some (high * 256 + low, drop 4 text)

-- the value of four digits, and what is left behind them
abbrev pub four_digits_at : List ℕ → Option (ℕ × List ℕ)
four_digits_at text = four_behind text (two_digits_at text) (two_digits_at (drop 2 text))

-- behind `\x`
unfoldable pub byte_escape : List ℕ → Option (Unit × List ℕ)
byte_escape text = option_map (λ value. (Point value, drop 2 text)) (two_digits_at text)

-- Behind `\u`, four digits, or any number of them in braces for at most 0x10FFFF (12.7).
unfoldable pub braced_from : ℕ → List ℕ → Option (ℕ × List ℕ)
braced_from value [] = None
braced_from value (c ∷ cs) =
    if is_ascii_hexdigit c then (if nat_lt (value * 16 + digit_value c) 0x110000 then braced_from (value * 16 + digit_value c) cs else None)
    else if c == 125 then Some (value, cs)
    else None

unfoldable pub unicode_escape : List ℕ → Option (ℕ × List ℕ)
unicode_escape text =
    if first text == 123 then (if is_ascii_hexdigit (slice_index text 1) then braced_from 0 (drop 1 text) else None)
    else four_digits_at text

abbrev pub is_octal : ℕ → Bool
is_octal c = nat_le 48 c && nat_lt c 56

-- one to three octal digits, for at most 255
unfoldable pub octal_escape : List ℕ → Unit × List ℕ
octal_escape text =
    if not (is_octal (slice_index text 1)) then (Point (first text - 48), drop 1 text)
    else if nat_lt (first text) 52 && is_octal (slice_index text 2)
    then (Point ((first text - 48) * 64 + (slice_index text 1 - 48) * 8 + (slice_index text 2 - 48)), drop 3 text)
    else (Point ((first text - 48) * 8 + (slice_index text 1 - 48)), drop 2 text)

abbrev pub is_template : Reading → Bool
is_template Quoted = false
is_template Template = true

-- Behind a backslash, at a digit: a template has none but `\0`, before no digit.
unfoldable pub digit_escape : Reading → List ℕ → Option (Unit × List ℕ)
digit_escape Quoted text = if is_octal (first text) then Some (octal_escape text) else Some (Byte (first text), drop 1 text)
digit_escape Template text = if first text == 48 && not (is_ascii_digit (slice_index text 1)) then Some (Point 0, drop 1 text) else None

-- the characters of one letter's escapes
abbrev pub letter : ℕ → ℕ
letter c =
    if c == 98 then 8
    else if c == 116 then 9
    else if c == 110 then 10
    else if c == 118 then 11
    else if c == 102 then 12
    else if c == 114 then 13
    else c

abbrev pub of_point : Option (ℕ × List ℕ) → Option (Unit × List ℕ)
of_point None = None
of_point (Some (p, rest)) = Some (Point p, rest)

-- what stands behind a backslash
unfoldable pub escape : Reading → List ℕ → Option (Unit × List ℕ)
escape reading text =
    if length text == 0 then None
    else if first text == 117 then of_point (unicode_escape (drop 1 text))
    else if first text == 120 then byte_escape (drop 1 text)
    else if is_ascii_digit (first text) then digit_escape reading text
    else if begins_line_end text then Some (Nothing, after_line_end text)
    else Some (Byte (letter (first text)), drop 1 text)

-- What a text begins with: an escape, a line continuation, or one byte of a character. In a template a carriage return, with the
-- line feed behind it, counts as a line feed.
unfoldable pub next_unit : Reading → List ℕ → Option (Unit × List ℕ)
next_unit reading text =
    if length text == 0 then None
    else if first text == 92 then escape reading (drop 1 text)
    else if is_template reading && first text == 13 then Some (Byte 10, after_line_end text)
    else Some (Byte (first text), drop 1 text)
