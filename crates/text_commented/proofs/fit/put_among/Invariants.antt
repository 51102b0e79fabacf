use Rattle.std.proofs.Common.{◌++◌, Bool, false, List, drop, length, map, replicate}
use Rattle.text_pieces.specs.Tokens.{piece_view}
use Rattle.text_commented.specs.Commented.{PutsAmong}
use Rattle.text_commented.specs.Steps.{IsBehind, Placed, merged, placed_view}
use Rattle.text_commented.proofs.fit.put_among.Given as goal

abbrev pub invariant-pieces : goal.invariant-pieces
invariant-pieces l =
    (more : List Placed) (now : List Bool) → IsBehind l.i more
    → PutsAmong l.given.remarks.now l.put.used.items (map piece_view (drop l.i l.pieces)) (merged l.i (map piece_view (drop l.i l.pieces)) more) now
    → PutsAmong l.given.remarks.now (replicate (length l.given.remarks.now) false) (map piece_view l.pieces) (merged 0 (map piece_view l.pieces) (map placed_view l.put.placed.items ++ more)) now
