use Rattle.std.proofs.Common.{◌≡◌, drop, false}
use Rattle.text_lexer.specs.Literals.{regex_rest}
use Rattle.text_lexer.proofs.literal.regex_rest.Given as goal

abbrev pub invariant-bytes : goal.invariant-bytes
invariant-bytes l = regex_rest l.in_class l.escaped (drop l.at l.text) ≡ regex_rest false false l.text
