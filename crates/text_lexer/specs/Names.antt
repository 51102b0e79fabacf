-- Names (ECMA-262, 12.7).
use Rattle.std.specs.Prelude.{ℕ, zero, suc, ◌-◌, Bool, true, false, ◌==◌, if◌then◌else◌, List, length, take, drop, slice_index, Option, Some, None, is_some}
use Rattle.std.specs.List.{list_any}
use Rattle.text_characters.specs.Characters.{first, point, behind, is_name_start, is_name_part}
use Rattle.text_strings.specs.Escapes.{unicode_escape}
use Rattle.text_lexer.specs.Tokens.{Token, name, escaped_name}

-- the front of a text up to what is left of it
abbrev pub up_to : List ℕ → List ℕ → List ℕ
up_to text rest = take (length text - length rest) text

-- whether a name may begin, or go on, with a code point
abbrev pub is_named : Bool → ℕ → Bool
is_named true p = is_name_start p
is_named false p = is_name_part p

abbrev pub behind_escape : Bool → Option (ℕ × List ℕ) → Option (List ℕ)
behind_escape start None = None
behind_escape start (Some (p, rest)) = if is_named start p then Some rest else None

-- What is left behind one character with which a name begins, or goes on; it may be written as an escape.
unfoldable pub name_character : Bool → List ℕ → Option (List ℕ)
name_character start text =
    if first text == 92 then (if slice_index text 1 == 117 then behind_escape start (unicode_escape (drop 2 text)) else None)
    else if is_named start (point text) then Some (behind text)
    else None

abbrev pub begins_name : List ℕ → Bool
begins_name text = is_some (name_character true text)

abbrev pub name_behind : (List ℕ → List ℕ) → List ℕ → Option (List ℕ) → List ℕ
name_behind more text None = text
name_behind more text (Some rest) = more rest

-- what is left behind all characters with which a name goes on, of which there are no more than n
unfoldable pub name_rest : ℕ → List ℕ → List ℕ
name_rest zero text = text
name_rest (suc n) text = name_behind (name_rest n) text (name_character false text)

abbrev pub after_parts : List ℕ → List ℕ
after_parts text = name_rest (length text) text

-- what is left behind a name, where the text begins with one
abbrev pub after_name : List ℕ → List ℕ
after_name text = name_behind after_parts text (name_character true text)

-- whether a backslash stands in a text
abbrev pub has_escape : List ℕ → Bool
has_escape text = list_any (λ c. c == 92) text

abbrev pub named : List ℕ → Token
named text = if has_escape text then escaped_name text else name text

-- the name at the front of a text that begins with one
abbrev pub name_at : List ℕ → Token × List ℕ
name_at text = (named (up_to text (after_name text)), after_name text)
