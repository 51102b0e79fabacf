-- What the first unit of a literal adds to a value.
use Rattle.std.specs.Prelude.{ℕ, Bool, not, ◌&&◌, ◌==◌, nat_eq, if◌then◌else◌, List, length, drop, Option, Some, None}
use Rattle.std.specs.List.{list_any, starts_with}
use Rattle.text_strings.specs.declared.escape.Reading.{Reading}
use Rattle.text_strings.specs.declared.escape.Unit.{Unit}
use Rattle.text_strings.specs.Escapes.{next_unit}
use Rattle.text_values.specs.Values.{joined}

abbrev pub bytes_before : List ℕ → Option (List ℕ × ℕ) → Option (List ℕ × (ℕ × List ℕ))
bytes_before rest None = None
bytes_before rest (Some (bytes, half)) = Some (bytes, (half, rest))

abbrev pub bytes_of : ℕ → Option (Unit × List ℕ) → Option (List ℕ × (ℕ × List ℕ))
bytes_of half None = None
bytes_of half (Some (u, rest)) = bytes_before rest (joined half u)

-- the bytes of the first unit behind the half of a pair, the half that it leaves, and the text behind it
abbrev pub next_bytes : Reading → ℕ → List ℕ → Option (List ℕ × (ℕ × List ℕ))
next_bytes reading half text = bytes_of half (next_unit reading text)

abbrev pub bytes_taken : List ℕ → Option (List ℕ × (ℕ × List ℕ)) → Option (ℕ × (List ℕ × List ℕ))
bytes_taken value None = None
bytes_taken value (Some (bytes, (half, rest))) =
    if starts_with nat_eq value bytes then Some (half, (rest, drop (length bytes) value)) else None

-- the same, with those bytes taken off a value that begins with them
abbrev pub past_unit : Reading → ℕ → List ℕ → List ℕ → Option (ℕ × (List ℕ × List ℕ))
past_unit reading half text value = bytes_taken value (next_bytes reading half text)

-- no byte is read as another: neither a backslash nor a carriage return is among them
abbrev pub is_plain : List ℕ → Bool
is_plain text = not (list_any (λ c. c == 92) text) && not (list_any (λ c. c == 13) text)
