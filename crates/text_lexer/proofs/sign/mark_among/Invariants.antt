use Rattle.std.proofs.Common.{◌≡◌, drop}
use Rattle.text_lexer.specs.Lexical.{mark_among}
use Rattle.text_lexer.proofs.sign.mark_among.Given as goal

abbrev pub invariant-loop-mark : goal.invariant-loop-mark
invariant-loop-mark l = mark_among (drop l.mark-index l.marks) l.text ≡ mark_among l.marks l.text
