-- Where a semicolon may be left to the reader (ECMA-262, 12.10.1).
use Rattle.std.specs.Prelude.{ℕ, Bool, true, false, not, ◌||◌, List, codes, nat_eq}
use Rattle.std.specs.Cmp.Lexicographic.{pointwise}
use Rattle.text_lexer.specs.declared.mark.Mark.{Mark}
use Rattle.text_lexer.specs.declared.mark.Mark.TheVariants as mark
use Rattle.text_lexer.specs.Tokens as token
use Rattle.text_lexer.specs.Tokens.{Token}
use Rattle.text_pieces.specs.declared.item.Ending.{Ending}
use Rattle.text_pieces.specs.declared.item.Ending.TheVariants as ending
use Rattle.text_pieces.specs.Tokens.{Piece, closes, ends, frame, gap, here, may_braces, may_comma, may_from}

-- An expression goes on with any punctuator but those that begin another: `++` and `--` stand on the line of their operand.
abbrev pub mark_goes_on : Mark → Bool
mark_goes_on mark.LeftBrace = false
mark_goes_on mark.Bang = false
mark_goes_on mark.Tilde = false
mark_goes_on mark.PlusPlus = false
mark_goes_on mark.MinusMinus = false
mark_goes_on _ = true

-- an operand that is complete takes operators only
abbrev pub mark_goes_on_postfix : Mark → Bool
mark_goes_on_postfix mark.LeftParen = false
mark_goes_on_postfix mark.LeftBracket = false
mark_goes_on_postfix m = mark_goes_on m

abbrev pub is_semicolon : Token → Bool
is_semicolon (token.punctuator mark.Semicolon) = true
is_semicolon _ = false

abbrev pub is_left_paren : Token → Bool
is_left_paren (token.punctuator mark.LeftParen) = true
is_left_paren _ = false

abbrev pub is_star : Token → Bool
is_star (token.punctuator mark.Mul) = true
is_star _ = false

abbrev pub is_word : List ℕ → Token → Bool
is_word a (token.name b) = pointwise nat_eq b a
is_word a _ = false

abbrev pub is_operator_name : List ℕ → Bool
is_operator_name a = pointwise nat_eq a (codes "in") || pointwise nat_eq a (codes "instanceof")

abbrev pub goes_on_open : Token → Bool
goes_on_open (token.punctuator m) = mark_goes_on m
goes_on_open (token.name a) = is_operator_name a
goes_on_open (token.template p a) = true
goes_on_open _ = false

abbrev pub goes_on_postfix : Token → Bool
goes_on_postfix (token.punctuator m) = mark_goes_on_postfix m
goes_on_postfix (token.name a) = is_operator_name a
goes_on_postfix _ = false

-- what `let` would declare: a name or a pattern; one in brackets is a member besides
abbrev pub begins_declared : Token → Bool
begins_declared (token.name a) = true
begins_declared (token.escaped_name a) = true
begins_declared (token.punctuator mark.LeftBrace) = true
begins_declared _ = false

-- what ends thus goes on with the token, though a line has ended
abbrev pub goes_on : Ending → Token → Bool
goes_on ending.Open t = goes_on_open t
goes_on ending.Postfix t = goes_on_postfix t
goes_on ending.Closed t = is_semicolon t
goes_on ending.From t = is_semicolon t || is_word (codes "with") t
goes_on ending.Exports t = is_semicolon t || is_word (codes "from") t
goes_on ending.Field t = is_semicolon t || is_left_paren t
goes_on ending.Accessor t = not (is_star t)
goes_on ending.Let t = begins_declared t || goes_on_open t
goes_on ending.Any t = true
goes_on ending.Loop t = is_semicolon t

-- behind the parenthesis of `do ; while (a)` no line has to end
abbrev pub is_loop : Ending → Bool
is_loop ending.Loop = true
is_loop _ = false

-- how what is written ends behind a piece
abbrev pub ending_behind : Ending → Piece → Ending
ending_behind e (closes f) = f
ending_behind e here = e
ending_behind e (gap g) = e
ending_behind e (frame f) = e
ending_behind e may_comma = e
ending_behind e may_from = e
ending_behind e may_braces = e
ending_behind e ends = e
ending_behind e p = ending.Open
