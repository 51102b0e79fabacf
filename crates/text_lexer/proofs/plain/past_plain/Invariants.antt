use Rattle.std.proofs.Common.{◌≡◌, drop}
use Rattle.text_lexer.specs.Blanks.{blank}
use Rattle.text_lexer.proofs.plain.past_plain.Given as goal

abbrev pub invariant-bytes : goal.invariant-bytes
invariant-bytes l = blank l.fn.comments l.ended (drop l.at l.text) ≡ blank l.fn.comments l.fn.fresh l.text
