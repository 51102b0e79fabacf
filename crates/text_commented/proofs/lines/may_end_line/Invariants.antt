use Rattle.std.proofs.Common.{◌≡◌, drop, map}
use Rattle.text_pieces.specs.Tokens.{piece_view}
use Rattle.text_commented.specs.Places.{may_end_line}
use Rattle.text_commented.proofs.lines.may_end_line.Given as goal

abbrev pub invariant-pieces : goal.invariant-pieces
invariant-pieces l = may_end_line (map piece_view (drop l.i l.pieces)) ≡ may_end_line (map piece_view l.pieces)
