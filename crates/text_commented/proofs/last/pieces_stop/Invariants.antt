use Rattle.std.proofs.Common.{◌≡◌, ℕ, ◌<◌, Some, map, slice_get}
use Rattle.text_pieces.specs.Tokens.{Piece, piece_view}
use Rattle.text_commented.specs.Steps.{AreStopped, IsReady}
use Rattle.text_commented.proofs.last.pieces_stop.Given as goal

abbrev pub invariant-pieces : goal.invariant-pieces
invariant-pieces l = record {
  behind : l.noted.behind ≡ l.initial.noted.behind;
  ready : IsReady l.noted;
  stop : (n : ℕ) (p : Piece) → n < l.i → slice_get (map piece_view l.pieces) n ≡ Some p → AreStopped l.initial.noted.behind n p;
}
