-- What is skipped, without where it lies in memory.
use Rattle.std.specs.Prelude.{ℕ, length, ⊤}
use Rattle.text_lexer.specs.declared.blank.Skip as code
use Rattle.text_lexer.specs.declared.blank.Skip.TheVariants as codes_of
use Rattle.text_lexer.specs.Blanks.{Skip, stop, past, unclosed}

abbrev pub skip_view : code.Skip → Skip
skip_view codes_of.Stop = stop
skip_view (codes_of.Past ended rest) = past ended rest.now
skip_view codes_of.Unclosed = unclosed

-- what is left, if there is anything, is of a length that passes
abbrev pub IsShorterWhere : (ℕ → Type 0) → Skip → Type 0
IsShorterWhere P stop = ⊤
IsShorterWhere P unclosed = ⊤
IsShorterWhere P (past ended rest) = P (length rest)
