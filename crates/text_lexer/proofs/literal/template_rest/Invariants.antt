use Rattle.std.proofs.Common.{◌≡◌, drop, false}
use Rattle.text_lexer.specs.Literals.{template_rest}
use Rattle.text_lexer.proofs.literal.template_rest.Given as goal

abbrev pub invariant-bytes : goal.invariant-bytes
invariant-bytes l = template_rest l.escaped (drop l.at l.text) ≡ template_rest false l.text
