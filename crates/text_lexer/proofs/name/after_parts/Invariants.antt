use Rattle.std.proofs.Common.{◌≡◌, ◌-◌, ◌≤◌, length}
use Rattle.text_lexer.specs.Names.{name_rest}
use Rattle.text_lexer.proofs.name.after_parts.Given as goal

abbrev pub invariant-characters : goal.invariant-characters
invariant-characters l = record {
  same : name_rest (length l.text - l.turn) l.rest ≡ name_rest (length l.text) l.text;
  within : length l.rest ≤ length l.text;
}
