use Rattle.std.proofs.Common.{◌≡◌, drop, map}
use Rattle.std.specs.List.{list_any}
use Rattle.text_pieces.specs.Tokens.{piece_view}
use Rattle.text_commented.specs.Places.{is_token}
use Rattle.text_commented.proofs.order.has_token.Given as goal

abbrev pub invariant-pieces : goal.invariant-pieces
invariant-pieces l = list_any is_token (map piece_view (drop l.i l.pieces)) ≡ list_any is_token (map piece_view l.pieces)
