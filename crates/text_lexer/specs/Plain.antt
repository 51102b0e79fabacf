-- What is told by its first bytes alone, all of them below 128. `proofs/Ascii.antt` shows that the grammar says the same.
use Rattle.std.specs.Prelude.{ℕ, Bool, not, ◌&&◌, ◌||◌, ◌==◌, nat_lt, if◌then◌else◌, Option, Some, None}
use Rattle.std.specs.Char.{is_ascii_alphabetic, is_ascii_digit}
use Rattle.text_lexer.specs.declared.mark.Mark.{Mark}
use Rattle.text_lexer.specs.declared.mark.Mark.TheVariants as mark
use Rattle.text_lexer.specs.declared.token.Goal.{Goal}
use Rattle.text_lexer.specs.Lexical.{has_template_tail}

-- a name begins with it
abbrev pub is_plain_start : ℕ → Bool
is_plain_start c = is_ascii_alphabetic c || (c == 36 || c == 95)

-- a name goes on with it
abbrev pub is_plain_part : ℕ → Bool
is_plain_part c = (is_ascii_alphabetic c || is_ascii_digit c) || (c == 36 || c == 95)

-- neither a character past ASCII nor an escape, with which a name might go on
abbrev pub is_plain_end : ℕ → Bool
is_plain_end c = nat_lt c 128 && not (c == 92)

-- a space, a line feed or a tab
abbrev pub is_plain_blank : ℕ → Bool
is_plain_blank c = c == 32 || (c == 10 || c == 9)

-- neither white space nor a line terminator, and no comment begins with it
abbrev pub is_plain_stop : ℕ → Bool
is_plain_stop c = (nat_lt 32 c && nat_lt c 127) && not (c == 47 || (c == 60 || c == 45))

-- The punctuator that a byte is, where none that is longer can begin with it and the byte behind it.
abbrev pub lone_mark : Goal → ℕ → ℕ → Option Mark
lone_mark goal c next =
    if c == 40 then Some mark.LeftParen
    else if c == 41 then Some mark.RightParen
    else if c == 46 then (if next == 46 || is_ascii_digit next then None else Some mark.Dot)
    else if c == 44 then Some mark.Comma
    else if c == 59 then Some mark.Semicolon
    else if c == 61 then (if next == 61 || next == 62 then None else Some mark.Assign)
    else if c == 123 then Some mark.LeftBrace
    else if c == 125 then (if has_template_tail goal then None else Some mark.RightBrace)
    else if c == 58 then Some mark.Colon
    else if c == 91 then Some mark.LeftBracket
    else if c == 93 then Some mark.RightBracket
    else None
