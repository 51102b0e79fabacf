-- Strings, templates and regular expressions (ECMA-262, 12.9.4 to 12.9.6).
use Rattle.std.specs.Prelude.{ℕ, zero, suc, ◌-◌, Bool, true, false, not, ◌&&◌, ◌||◌, ◌==◌, if◌then◌else◌, List, [], ◌∷◌, length, take, drop, Option, Some, None, Result, Ok, Err}
use Rattle.text_characters.specs.Characters.{first, point, behind, begins_line_end, is_name_part}
use Rattle.text_strings.specs.declared.escape.Reading.TheVariants.{Quoted}
use Rattle.text_strings.specs.declared.escape.Unit.{Unit}
use Rattle.text_strings.specs.Escapes.{next_unit}
use Rattle.text_lexer.specs.declared.token.Fault.{Fault}
use Rattle.text_lexer.specs.declared.token.Fault.TheVariants.{Unterminated, BadEscape, BadRegex}
use Rattle.text_lexer.specs.declared.token.TemplatePart.{TemplatePart}
use Rattle.text_lexer.specs.declared.token.TemplatePart.TheVariants.{Whole, Head, Middle, Tail}
use Rattle.text_lexer.specs.Tokens.{Token, string, template, regex}
use Rattle.text_lexer.specs.Names.{up_to}

abbrev pub string_behind : (List ℕ → Result (List ℕ) Fault) → Option (Unit × List ℕ) → Result (List ℕ) Fault
string_behind more None = Err BadEscape
string_behind more (Some (u, rest)) = more rest

-- what is left behind the quote that closes a string of no more than n units
unfoldable pub string_rest : ℕ → ℕ → List ℕ → Result (List ℕ) Fault
string_rest zero quote text = Err Unterminated
string_rest (suc n) quote text =
    if length text == 0 then Err Unterminated
    else if first text == quote then Ok (drop 1 text)
    else if first text == 10 || first text == 13 then Err Unterminated
    else string_behind (string_rest n quote) (next_unit Quoted text)

-- what stands before a closing sign of n bytes and the rest
abbrev pub before : ℕ → List ℕ → List ℕ → List ℕ
before n inner rest = take (length inner - length rest - n) inner

abbrev pub string_before : List ℕ → Result (List ℕ) Fault → Result (Token × List ℕ) Fault
string_before inner (Err fault) = Err fault
string_before inner (Ok rest) = Ok (string (before 1 inner rest), rest)

-- the string at the front of a text that begins with a quote
abbrev pub string_at : List ℕ → Result (Token × List ℕ) Fault
string_at text = string_before (drop 1 text) (string_rest (length (drop 1 text)) (first text) (drop 1 text))

-- Behind a backquote, or behind `${`, which is told; a byte behind a backslash closes nothing.
unfoldable pub template_rest : Bool → List ℕ → Option (Bool × List ℕ)
template_rest escaped [] = None
template_rest escaped (c ∷ cs) =
    if not escaped && c == 96 then Some (false, cs)
    else if not escaped && (c == 36 && first cs == 123) then Some (true, drop 1 cs)
    else template_rest (not escaped && c == 92) cs

-- by whether a backquote opens it, and whether `${` closes it
abbrev pub part : Bool → Bool → TemplatePart
part true false = Whole
part true true = Head
part false true = Middle
part false false = Tail

abbrev pub template_before : Bool → List ℕ → Option (Bool × List ℕ) → Result (Token × List ℕ) Fault
template_before opens inner None = Err Unterminated
template_before opens inner (Some (false, rest)) = Ok (template (part opens false) (before 1 inner rest), rest)
template_before opens inner (Some (true, rest)) = Ok (template (part opens true) (before 2 inner rest), rest)

-- the piece of a template at the front of a text that begins with a backquote or a brace
abbrev pub template_at : List ℕ → Result (Token × List ℕ) Fault
template_at text = template_before (first text == 96) (drop 1 text) (template_rest false (drop 1 text))

-- Behind the slash that closes a regular expression: none in a class does, and none behind a backslash.
unfoldable pub regex_rest : Bool → Bool → List ℕ → Option (List ℕ)
regex_rest in_class escaped [] = None
regex_rest in_class escaped (c ∷ cs) =
    if begins_line_end (c ∷ cs) then None
    else if escaped then regex_rest in_class false cs
    else if c == 47 && not in_class then Some cs
    else regex_rest (c == 91 || (in_class && not (c == 93))) (c == 92) cs

-- what is left behind flags, which have no escapes
unfoldable pub flags_rest : ℕ → List ℕ → List ℕ
flags_rest zero text = text
flags_rest (suc n) text = if is_name_part (point text) then flags_rest n (behind text) else text

abbrev pub after_flags : List ℕ → List ℕ
after_flags text = flags_rest (length text) text

abbrev pub regex_before : List ℕ → Option (List ℕ) → Result (Token × List ℕ) Fault
regex_before inner None = Err BadRegex
regex_before inner (Some rest) = Ok (regex (before 1 inner rest) (up_to rest (after_flags rest)), after_flags rest)

-- A regular expression behind its slash: a body is not empty, and does not make the slash a comment's.
abbrev pub regex_behind : List ℕ → Result (Token × List ℕ) Fault
regex_behind inner = if first inner == 47 || first inner == 42 then Err BadRegex else regex_before inner (regex_rest false false inner)

abbrev pub regex_at : List ℕ → Result (Token × List ℕ) Fault
regex_at text = regex_behind (drop 1 text)
