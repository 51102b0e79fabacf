use Rattle.std.proofs.Common.{◌≡◌, drop}
use Rattle.text_lexer.specs.Blanks.{line_rest}
use Rattle.text_words.proofs.token.is_one_line.Given as goal

abbrev pub invariant-bytes : goal.invariant-bytes
invariant-bytes l = line_rest (drop l.at l.text) ≡ line_rest l.text
