use Rattle.std.proofs.Common.{◌≡◌, drop}
use Rattle.text_comments.specs.Lines.{has_line_end}
use Rattle.text_comments.proofs.line.has_line_end.Given as goal

abbrev pub invariant-bytes : goal.invariant-bytes
invariant-bytes l = has_line_end (drop l.at l.text) ≡ has_line_end l.text
