-- The token at the front of a text by the lexical goal of its place (ECMA-262, 12).
use Rattle.std.specs.Prelude.{ℕ, Bool, true, false, not, ◌&&◌, ◌||◌, ◌==◌, nat_eq, if◌then◌else◌, List, [], ◌∷◌, length, drop, Result, Ok, Err}
use Rattle.std.specs.List.{starts_with}
use Rattle.std.specs.Char.{is_ascii_digit}
use Rattle.text_characters.specs.Characters.{first}
use Rattle.text_lexer.specs.declared.mark.Mark.{Mark}
use Rattle.text_lexer.specs.declared.mark.Mark.TheVariants.{QuestionDot}
use Rattle.text_lexer.specs.declared.token.Fault.{Fault}
use Rattle.text_lexer.specs.declared.token.Fault.TheVariants.{Unexpected, BadEscape}
use Rattle.text_lexer.specs.declared.token.Goal.{Goal}
use Rattle.text_lexer.specs.declared.token.Goal.TheVariants.{Div, RegExp, TemplateTail, RegExpOrTemplateTail, HashbangOrRegExp}
use Rattle.text_lexer.specs.Marks.{marks_from, spelling}
use Rattle.text_lexer.specs.Tokens.{Token, private_name, punctuator, hashbang, end}
use Rattle.text_lexer.specs.Names.{up_to, begins_name, after_name, name_at}
use Rattle.text_lexer.specs.Numbers.{begins_number, number_at}
use Rattle.text_lexer.specs.Literals.{string_at, template_at, regex_at}
use Rattle.text_lexer.specs.Blanks.{line_rest}

-- whether a slash begins a regular expression, and a closing brace a piece of a template
abbrev pub has_regex : Goal → Bool
has_regex Div = false
has_regex TemplateTail = false
has_regex RegExp = true
has_regex RegExpOrTemplateTail = true
has_regex HashbangOrRegExp = true

abbrev pub has_template_tail : Goal → Bool
has_template_tail TemplateTail = true
has_template_tail RegExpOrTemplateTail = true
has_template_tail Div = false
has_template_tail RegExp = false
has_template_tail HashbangOrRegExp = false

abbrev pub has_hashbang : Goal → Bool
has_hashbang HashbangOrRegExp = true
has_hashbang Div = false
has_hashbang RegExp = false
has_hashbang TemplateTail = false
has_hashbang RegExpOrTemplateTail = false

-- no decimal digit stands behind `?.` (12.8)
abbrev pub may_follow : Mark → List ℕ → Bool
may_follow QuestionDot rest = not (is_ascii_digit (first rest))
may_follow _ rest = true

unfoldable pub begins_mark : Mark → List ℕ → Bool
begins_mark m text = starts_with nat_eq text (spelling m) && may_follow m (drop (length (spelling m)) text)

-- the first of the punctuators that the text begins with
unfoldable pub mark_among : List Mark → List ℕ → Result (Token × List ℕ) Fault
mark_among [] text = Err Unexpected
mark_among (m ∷ ms) text = if begins_mark m text then Ok (punctuator m, drop (length (spelling m)) text) else mark_among ms text

abbrev pub mark_at : List ℕ → Result (Token × List ℕ) Fault
mark_at text = mark_among (marks_from (first text)) text

-- behind a number sign
abbrev pub hash_at : Goal → List ℕ → Result (Token × List ℕ) Fault
hash_at goal text =
    if has_hashbang goal && first text == 33 then Ok (hashbang (up_to (drop 1 text) (line_rest (drop 1 text))), line_rest (drop 1 text))
    else if begins_name text then Ok (private_name (up_to text (after_name text)), after_name text)
    else Err Unexpected

-- a token that begins with a sign
unfoldable pub sign_at : Goal → List ℕ → Result (Token × List ℕ) Fault
sign_at goal text =
    if first text == 34 || first text == 39 then string_at text
    else if first text == 96 || (first text == 125 && has_template_tail goal) then template_at text
    else if first text == 47 && has_regex goal then regex_at text
    else if first text == 35 then hash_at goal (drop 1 text)
    else if first text == 92 then Err BadEscape
    else mark_at text

-- the token at the front of a text, and the text behind it
unfoldable pub token_at : Goal → List ℕ → Result (Token × List ℕ) Fault
token_at goal text =
    if length text == 0 then Ok (end, [])
    else if begins_name text then Ok (name_at text)
    else if begins_number text then number_at text
    else sign_at goal text
