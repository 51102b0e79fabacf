-- The values of strings and templates (ECMA-262, 12.9.4.2 and 12.9.6.1), in UTF-8.
use Rattle.std.specs.Prelude.{ℕ, zero, suc, ◌+◌, ◌*◌, ◌%◌, Bool, ◌&&◌, ◌==◌, nat_lt, nat_le, if◌then◌else◌, List, [], ◌∷◌, ◌++◌, length, drop, Option, Some, None, option_map, option_to_list, Result, Ok, Err, encode_utf8, bytes_eq, false}
use lib.Utf8.{scalar}
use Rattle.text_characters.specs.Characters.{first}
use Rattle.text_strings.specs.declared.escape.Reading.{Reading}
use Rattle.text_strings.specs.declared.escape.Unit.{Unit}
use Rattle.text_strings.specs.declared.escape.Unit.TheVariants.{Nothing, Byte, Point}
use Rattle.text_values.specs.declared.value.Flaw.{Flaw}
use Rattle.text_values.specs.declared.value.Flaw.TheVariants.{BadEscape, HalfSurrogate}
use Rattle.text_strings.specs.Escapes.{next_unit}

-- a unit and those of what is left
abbrev pub units_behind : (List ℕ → Option (List Unit)) → Option (Unit × List ℕ) → Option (List Unit)
units_behind more None = None
units_behind more (Some (u, rest)) = option_map (λ us. u ∷ us) (more rest)

-- the units of a literal one after another; n is no less than how many there are
unfoldable pub units_in : ℕ → Reading → List ℕ → Option (List Unit)
units_in zero reading text = Some []
units_in (suc n) reading text = if length text == 0 then Some [] else units_behind (units_in n reading) (next_unit reading text)

abbrev pub units : Reading → List ℕ → Option (List Unit)
units reading text = units_in (length text) reading text

abbrev pub is_lead : ℕ → Bool
is_lead p = nat_le 0xD800 p && nat_lt p 0xDC00

abbrev pub is_trail : ℕ → Bool
is_trail p = nat_le 0xDC00 p && nat_lt p 0xE000

-- a character in UTF-8
abbrev pub of_scalar : ℕ → Option (List ℕ)
of_scalar p = if scalar p then Some (encode_utf8 p) else None

abbrev pub without_half : Option (List ℕ) → Option (List ℕ × ℕ)
without_half None = None
without_half (Some bytes) = Some (bytes, 0)

-- What a unit adds behind the first half of a pair of UTF-16 (or behind none, which is 0), and the half that it leaves.
unfoldable pub joined : ℕ → Unit → Option (List ℕ × ℕ)
joined half Nothing = Some ([], half)
joined half (Byte b) = if half == 0 then Some (b ∷ [], 0) else None
joined half (Point p) =
    if half == 0 then (if is_lead p then Some ([], p) else without_half (of_scalar p))
    else if is_trail p then without_half (of_scalar (half % 1024 * 1024 + p % 1024 + 0x10000))
    else None

-- bytes and those of what is left
abbrev pub bytes_behind : (ℕ → Option (List ℕ)) → Option (List ℕ × ℕ) → Option (List ℕ)
bytes_behind more None = None
bytes_behind more (Some (bytes, half)) = option_map (λ rest. bytes ++ rest) (more half)

-- the bytes of units, where no half of a pair stands alone
unfoldable pub encoded : ℕ → List Unit → Option (List ℕ)
encoded half [] = if half == 0 then Some [] else None
encoded half (u ∷ us) = bytes_behind (λ left. encoded left us) (joined half u)

abbrev pub of_bytes : Option (List ℕ) → Result (List ℕ) Flaw
of_bytes None = Err HalfSurrogate
of_bytes (Some bytes) = Ok bytes

abbrev pub of_units : Option (List Unit) → Result (List ℕ) Flaw
of_units None = Err BadEscape
of_units (Some us) = of_bytes (encoded 0 us)

-- The value of a literal's text without its quotes.
abbrev pub cooked : Reading → List ℕ → Result (List ℕ) Flaw
cooked reading text = of_units (units reading text)

-- whether a literal's text stands for these bytes
abbrev pub is_value : Result (List ℕ) Flaw → List ℕ → Bool
is_value (Ok bytes) value = bytes_eq bytes value
is_value (Err flaw) value = false

-- What a byte of a template, with the byte behind it, is in `raw`: a carriage return is a line feed, and nothing before one.
abbrev pub raw_byte : ℕ → ℕ → Option ℕ
raw_byte c next = if c == 13 then (if next == 10 then None else Some 10) else Some c

-- the text of a template as `raw` has it
unfoldable pub template_raw : List ℕ → List ℕ
template_raw [] = []
template_raw (c ∷ cs) = option_to_list (raw_byte c (first cs)) ++ template_raw cs

-- what is left of a text behind a byte, if one is given
abbrev pub past_raw : List ℕ → Option ℕ → Option (List ℕ)
past_raw left None = Some left
past_raw [] (Some b) = None
past_raw (c ∷ cs) (Some b) = if b == c then Some cs else None
