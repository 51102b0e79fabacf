-- The sets of digits.
use Rattle.std.specs.Prelude.{ℕ, Bool}
use Rattle.std.specs.Char.{is_ascii_digit, is_ascii_hexdigit}
use Rattle.text_lexer.specs.declared.number.Digits.{Digits}
use Rattle.text_lexer.specs.declared.number.Digits.TheVariants.{Binary, Octal, Decimal, Hex}
use Rattle.text_lexer.specs.Numbers.{is_binary, is_octal}

abbrev pub passes : Digits → ℕ → Bool
passes Binary = is_binary
passes Octal = is_octal
passes Decimal = is_ascii_digit
passes Hex = is_ascii_hexdigit
