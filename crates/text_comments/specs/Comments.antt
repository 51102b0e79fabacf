-- The comments of a text, and the tokens that they stand at (ECMA-262, 12.4).
use Rattle.std.specs.Prelude.{◌≡◌, ℕ, zero, suc, ◌+◌, ◌-◌, Bool, true, false, not, ◌&&◌, nat_le, if◌then◌else◌, List, [], ◌∷◌, ◌++◌, map, length, Option, Some, None, Result, Ok, Err}
use Rattle.swc_tree_marks.specs.declared.span.Span.{Span}
use Rattle.text_characters.specs.Characters.{begins_line_end, is_space, point}
use Rattle.text_lexer.specs.declared.blank.Comments.{Comments}
use Rattle.text_lexer.specs.declared.token.Fault.{Fault}
use Rattle.text_lexer.specs.declared.token.Goal.{Goal}
use Rattle.text_lexer.specs.Blanks.{Skip, blank, past, skip_piece, stop, unclosed}
use Rattle.text_lexer.specs.Lexical.{token_at}
use Rattle.text_lexer.specs.Tokens.{Token}
use Rattle.text_pieces.specs.declared.item.Ending.{Ending}
use Rattle.text_pieces.specs.declared.item.Ending.TheVariants as ending
use Rattle.text_pieces.specs.Tokens.{Piece}
use Rattle.text_follow.specs.Endings.{ending_behind}
use Rattle.text_follow.specs.Follows.{Takes, fresh_behind, goal_of}
use Rattle.text_comments.specs.declared.comment.Comment.{Comment}

-- where what is left of a text begins, in bytes from 1
abbrev pub position : List ℕ → List ℕ → ℕ
position whole rest = 1 + (length whole - length rest)

-- what is skipped at the front of a text is a comment, and no white space and no line end
abbrev pub is_comment : List ℕ → Bool
is_comment text = not (begins_line_end text) && not (is_space (point text))

-- the comment at the front of a text, up to what is left, between two tokens
abbrev pub comment : List ℕ → ℕ → ℕ → List ℕ → List ℕ → Comment
comment whole trails leads text rest = record { span = record { lo = position whole text; hi = position whole rest }; trails = trails; leads = leads }

abbrev pub skipped : List ℕ → ℕ → ℕ → List ℕ → List ℕ → List Comment
skipped whole trails leads text rest = if is_comment text then comment whole trails leads text rest ∷ [] else []

abbrev pub among_behind : (Bool → List ℕ → List Comment) → (List ℕ → List Comment) → Skip → List Comment
among_behind more here stop = []
among_behind more here unclosed = []
among_behind more here (past ended rest) = here rest ++ more ended rest

-- the comments among no more than n blanks, of which the text behind them begins with no other
unfoldable pub among : ℕ → Comments → List ℕ → ℕ → ℕ → Bool → List ℕ → List Comment
among zero c whole trails leads ended text = []
among (suc n) c whole trails leads ended text =
    among_behind (among n c whole trails leads) (skipped whole trails leads text) (skip_piece c ended text)

abbrev pub next_of : List ℕ → Option (Bool × List ℕ) → List ℕ
next_of text None = text
next_of text (Some (ended, next)) = next

-- what is left behind the blanks of a text
abbrev pub behind_blanks : Comments → Bool → List ℕ → List ℕ
behind_blanks c fresh text = next_of text (blank c fresh text)

-- Where a token ends that stands before a text, 0 where nothing does.
abbrev pub end_before : List ℕ → Bool → List ℕ → ℕ
end_before whole fresh text = if fresh then 0 else position whole text

-- The comments before the next token: they trail the token before, and lead the next.
abbrev pub before_token : Comments → List ℕ → Bool → List ℕ → List Comment
before_token c whole fresh text =
    among (length text) c whole (end_before whole fresh text) (position whole (behind_blanks c fresh text)) fresh text

abbrev pub rest_of : List ℕ → Result (Token × List ℕ) Fault → List ℕ
rest_of text (Ok p) = p.1
rest_of text (Err f) = text

abbrev pub behind_token : Comments → Goal → Bool → List ℕ → List ℕ
behind_token c goal fresh text = rest_of (behind_blanks c fresh text) (token_at goal (behind_blanks c fresh text))

-- the comments before no more than n tokens by a goal, up to what is left
unfoldable pub before_tokens : ℕ → Comments → Goal → List ℕ → Bool → List ℕ → List ℕ → List Comment
before_tokens zero c goal whole fresh text rest = []
before_tokens (suc n) c goal whole fresh text rest =
    if nat_le (length text) (length rest) then []
    else before_token c whole fresh text ++ before_tokens n c goal whole false (behind_token c goal fresh text) rest

-- The comments of a text that is written with pieces, in their order; `whole` is all of it.
abbrev pub HasCommentsFrom : Comments → List ℕ → Bool → Ending → List Piece → List ℕ → List Comment → Type 0
HasCommentsFrom c whole fresh e [] text found = found ≡ before_token c whole fresh text
HasCommentsFrom c whole fresh e (p ∷ ps) text found =
    (rest : List ℕ) × (more : List Comment) × Takes c true fresh e p text rest
    × (found ≡ before_tokens (length text) c (goal_of p) whole fresh text rest ++ more)
    × HasCommentsFrom c whole (fresh_behind fresh p) (ending_behind e p) ps rest more

abbrev pub HasComments : Comments → List Piece → List ℕ → List Comment → Type 0
HasComments c ps text found = HasCommentsFrom c text true ending.Closed ps text found
