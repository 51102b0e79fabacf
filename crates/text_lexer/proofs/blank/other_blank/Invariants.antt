use Rattle.std.proofs.Common.{◌≡◌, ◌-◌, ◌≤◌, length}
use Rattle.text_lexer.specs.Blanks.{blank_from}
use Rattle.text_lexer.proofs.blank.other_blank.Given as goal

abbrev pub invariant-pieces : goal.invariant-pieces
invariant-pieces l = record {
  same : blank_from (length l.text - l.turn) l.comments l.ended l.rest ≡ blank_from (length l.text) l.comments l.fresh l.text;
  within : length l.rest ≤ length l.text;
}
