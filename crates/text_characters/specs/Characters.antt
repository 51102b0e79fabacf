-- The characters of a text in UTF-8, and the classes that the lexical grammar tells apart (ECMA-262, 12.2, 12.3, 12.7).
use Rattle.std.specs.Prelude.{ℕ, ◌+◌, ◌*◌, ◌%◌, Bool, ◌&&◌, ◌||◌, ◌==◌, nat_lt, nat_le, if◌then◌else◌, List, slice_index, drop}
use Rattle.std.specs.Char.{is_ascii_alphabetic, is_ascii_digit}
use lib.Utf8.{scalar}
use Rattle.ucd_derived.specs.Binary.{is_id_start, is_id_continue}

-- the first byte, or 0
abbrev pub first : List ℕ → ℕ
first text = slice_index text 0

-- how many bytes a character takes that begins with this one
abbrev pub width : ℕ → ℕ
width a = if nat_lt a 128 then 1 else if nat_lt a 224 then 2 else if nat_lt a 240 then 3 else 4

-- the code point of a character by its bytes, of which those past its width count for nothing
unfoldable pub point_of : ℕ → ℕ → ℕ → ℕ → ℕ
point_of a b c d =
    if nat_lt a 128 then a
    else if nat_lt a 224 then a % 32 * 64 + b % 64
    else if nat_lt a 240 then a % 16 * 4096 + b % 64 * 64 + c % 64
    else a % 8 * 262144 + b % 64 * 4096 + c % 64 * 64 + d % 64

-- the code point of the character that a text begins with, and 0 where it is empty
abbrev pub point : List ℕ → ℕ
point text = point_of (first text) (slice_index text 1) (slice_index text 2) (slice_index text 3)

-- what is left behind the first character
abbrev pub behind : List ℕ → List ℕ
behind text = drop (width (first text)) text

-- a character past ASCII, and no half of a pair of UTF-16, by Unicode's tables
abbrev pub is_past_ascii_start : ℕ → Bool
is_past_ascii_start p = scalar p && is_id_start p

abbrev pub is_past_ascii_part : ℕ → Bool
is_past_ascii_part p = scalar p && is_id_continue p

-- ID_Start, a dollar sign or a low line
unfoldable pub is_name_start : ℕ → Bool
is_name_start p = if nat_lt p 128 then is_ascii_alphabetic p || (p == 36 || p == 95) else is_past_ascii_start p

-- ID_Continue, a dollar sign, and the joiners
unfoldable pub is_name_part : ℕ → Bool
is_name_part p =
    if nat_lt p 128 then (is_ascii_alphabetic p || is_ascii_digit p) || (p == 36 || p == 95)
    else (p == 0x200C || p == 0x200D) || is_past_ascii_part p

-- a tab, a vertical tab, a form feed, the byte order mark, or a character of the category Space_Separator
unfoldable pub is_space : ℕ → Bool
is_space p =
    if nat_lt p 128 then (p == 32 || p == 9) || (p == 11 || p == 12)
    else ((p == 0xA0 || p == 0xFEFF) || (p == 0x1680 || p == 0x3000))
    || ((nat_le 0x2000 p && nat_le p 0x200A) || (p == 0x202F || p == 0x205F))

-- a line feed, a carriage return, a line separator or a paragraph separator
unfoldable pub begins_line_end : List ℕ → Bool
begins_line_end text =
    (first text == 10 || first text == 13)
    || ((first text == 0xE2 && slice_index text 1 == 0x80) && (slice_index text 2 == 0xA8 || slice_index text 2 == 0xA9))

-- what is left behind a line terminator, where a carriage return takes the line feed behind it along
unfoldable pub after_line_end : List ℕ → List ℕ
after_line_end text = if first text == 13 && slice_index text 1 == 10 then drop 2 text else behind text
