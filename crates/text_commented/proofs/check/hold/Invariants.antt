use Rattle.std.proofs.Common.{◌≤◌, drop, length, map}
use Rattle.text_pieces.specs.Tokens.{piece_view}
use Rattle.text_commented.specs.Commented.{IsSet}
use Rattle.text_commented.specs.Steps.{GoesOn, merged, placed_view}
use Rattle.text_commented.proofs.check.hold.Given as goal

abbrev pub invariant-placed : goal.invariant-placed
invariant-placed l = record {
  within : l.at ≤ length l.pieces;
  goes_on :
      GoesOn l.source.comments l.source.whole.now l.remarks l.walk (merged l.at (map piece_view (drop l.at l.pieces)) (map placed_view (drop l.i l.placed)))
      → IsSet l.source.comments l.remarks (merged 0 (map piece_view l.pieces) (map placed_view l.placed)) l.source.whole.now;
}
