use Rattle.std.proofs.Common.{[], drop, map}
use Rattle.text_pieces.specs.Tokens.{piece_view}
use Rattle.text_commented.specs.Commented.{KeepsOrder}
use Rattle.text_commented.specs.Steps.{KeepsOn, merged, placed_view}
use Rattle.text_commented.proofs.order.keeps_order.Given as goal

abbrev pub invariant-placed : goal.invariant-placed
invariant-placed l =
    KeepsOn l.remarks l.near.items (merged l.at (map piece_view (drop l.at l.pieces)) (map placed_view (drop l.i l.placed)))
    → KeepsOrder l.remarks [] (merged 0 (map piece_view l.pieces) (map placed_view l.placed))
