use Rattle.std.proofs.Common.{◌≡◌, drop}
use Rattle.text_lexer.specs.Digits.{passes}
use Rattle.text_lexer.specs.Numbers.{after_digits}
use Rattle.text_lexer.proofs.number.after_digits.Given as goal

abbrev pub invariant-digits : goal.invariant-digits
invariant-digits l = after_digits (passes l.digits) (drop l.at l.text) ≡ after_digits (passes l.digits) l.text
