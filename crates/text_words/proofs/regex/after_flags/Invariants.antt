use Rattle.std.proofs.Common.{◌≡◌, ◌-◌, ◌≤◌, length}
use Rattle.text_lexer.specs.Literals.{flags_rest}
use Rattle.text_words.proofs.regex.after_flags.Given as goal

abbrev pub invariant-flags : goal.invariant-flags
invariant-flags l = record {
  same : flags_rest (length l.text - l.turn) l.rest ≡ flags_rest (length l.text) l.text;
  within : length l.rest ≤ length l.text;
}
