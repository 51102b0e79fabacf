use Rattle.std.proofs.Common.{◌≡◌, drop}
use Rattle.text_lexer.specs.Blanks.{block_rest}
use Rattle.text_lexer.proofs.blank.block_rest.Given as goal

abbrev pub invariant-bytes : goal.invariant-bytes
invariant-bytes l = block_rest l.ended (drop l.at l.text) ≡ block_rest l.ended_before l.text
