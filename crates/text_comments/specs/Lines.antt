-- Comments, and the lines that end in them or behind them.
use Rattle.std.specs.Prelude.{ℕ, Bool, true, false, ◌&&◌, ◌||◌, ◌==◌, nat_eq, List, [], ◌∷◌, length, codes}
use Rattle.std.specs.List.{starts_with}
use Rattle.text_characters.specs.Characters.{begins_line_end}
use Rattle.text_lexer.specs.declared.blank.Comments.{Comments}
use Rattle.text_lexer.specs.Blanks.{Skip, past, skip_piece, stop, unclosed}
use Rattle.text_comments.specs.Comments.{is_comment}

abbrev pub is_all : Skip → Bool
is_all (past ended rest) = length rest == 0
is_all stop = false
is_all unclosed = false

-- the whole text is one comment, which may begin a line
abbrev pub is_one_comment : Comments → List ℕ → Bool
is_one_comment c text = is_all (skip_piece c true text) && is_comment text

-- it goes to the end of its line
abbrev pub goes_to_line_end : List ℕ → Bool
goes_to_line_end text = starts_with nat_eq text (codes "//") || starts_with nat_eq text (codes "<!--") || starts_with nat_eq text (codes "-->")

-- a line ends in it
unfoldable pub has_line_end : List ℕ → Bool
has_line_end [] = false
has_line_end (c ∷ cs) = begins_line_end (c ∷ cs) || has_line_end cs

abbrev pub ends_line : List ℕ → Bool
ends_line text = goes_to_line_end text || has_line_end text
