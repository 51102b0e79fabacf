-- White space, line terminators and comments (ECMA-262, 12.2 to 12.4, B.1.1).
use Rattle.std.specs.Prelude.{ℕ, zero, suc, Bool, true, false, ◌&&◌, ◌||◌, ◌==◌, nat_eq, if◌then◌else◌, List, [], ◌∷◌, length, drop, codes, Option, Some, None}
use Rattle.std.specs.List.{starts_with}
use Rattle.text_characters.specs.Characters.{first, point, behind, begins_line_end, after_line_end, is_space}
use Rattle.text_lexer.specs.declared.blank.Comments.{Comments}
use Rattle.text_lexer.specs.declared.blank.Comments.TheVariants.{Module, Script}

-- What is skipped: nothing, something (and whether a line has ended), or a comment that is not closed.
pub data Skip : Type 0 where
  stop : Skip
  past : Bool → List ℕ → Skip
  unclosed : Skip

-- up to the end of the line
unfoldable pub line_rest : List ℕ → List ℕ
line_rest [] = []
line_rest (c ∷ cs) = if begins_line_end (c ∷ cs) then c ∷ cs else line_rest cs

-- behind a comment, and whether a line has ended, in it or before
unfoldable pub block_rest : Bool → List ℕ → Option (Bool × List ℕ)
block_rest ended [] = None
block_rest ended (c ∷ cs) =
    if c == 42 && first cs == 47 then Some (ended, drop 1 cs) else block_rest (ended || begins_line_end (c ∷ cs)) cs

abbrev pub past_block : Option (Bool × List ℕ) → Skip
past_block None = unclosed
past_block (Some (ended, rest)) = past ended rest

abbrev pub is_script : Comments → Bool
is_script Module = false
is_script Script = true

-- Whether a comment begins that goes to the end of the line; in a script `<!--` is one, and `-->` where a line begins.
abbrev pub begins_line_comment : Comments → Bool → List ℕ → Bool
begins_line_comment comments ended text =
    starts_with nat_eq text (codes "//")
    || (is_script comments && (starts_with nat_eq text (codes "<!--") || (ended && starts_with nat_eq text (codes "-->"))))

unfoldable pub skip_piece : Comments → Bool → List ℕ → Skip
skip_piece comments ended text =
    if begins_line_end text then past true (after_line_end text)
    else if is_space (point text) then past ended (behind text)
    else if begins_line_comment comments ended text then past ended (line_rest text)
    else if starts_with nat_eq text (codes "/*") then past_block (block_rest ended (drop 2 text))
    else stop

abbrev pub blank_behind : (Bool → List ℕ → Option (Bool × List ℕ)) → Bool → List ℕ → Skip → Option (Bool × List ℕ)
blank_behind more ended text stop = Some (ended, text)
blank_behind more ended text unclosed = None
blank_behind more ended text (past now_ended rest) = more now_ended rest

-- of no more than n pieces
unfoldable pub blank_from : ℕ → Comments → Bool → List ℕ → Option (Bool × List ℕ)
blank_from zero comments ended text = Some (ended, text)
blank_from (suc n) comments ended text = blank_behind (blank_from n comments) ended text (skip_piece comments ended text)

-- What is left behind white space, line terminators and comments, and whether a line has ended, or begun with the text (`fresh`).
abbrev pub blank : Comments → Bool → List ℕ → Option (Bool × List ℕ)
blank comments fresh text = blank_from (length text) comments fresh text
