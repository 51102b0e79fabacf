use Rattle.std.proofs.Common.{◌≡◌, ◌-◌, ◌≤◌, length}
use Rattle.text_lexer.specs.Literals.{string_rest}
use Rattle.text_lexer.proofs.literal.string_rest.Given as goal

abbrev pub invariant-units : goal.invariant-units
invariant-units l = record {
  same : string_rest (length l.text - l.turn) l.quote l.rest ≡ string_rest (length l.text) l.quote l.text;
  within : length l.rest ≤ length l.text;
}
