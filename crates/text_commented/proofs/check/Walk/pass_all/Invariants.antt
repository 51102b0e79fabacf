use Rattle.std.proofs.Common.{List, ◌++◌, drop, map}
use Rattle.text_pieces.specs.Tokens.{piece_view}
use Rattle.text_commented.specs.Commented.{Item, token}
use Rattle.text_commented.specs.Steps.{GoesOn}
use Rattle.text_commented.specs.declared.remark.Remark.{Remark}
use Rattle.text_commented.proofs.check.Walk.pass_all.Given as goal

abbrev pub invariant-pieces : goal.invariant-pieces
invariant-pieces l =
    (rs : List Remark) (more : List Item) → GoesOn l.source.comments l.source.whole.now rs l.self (map token (map piece_view (drop l.i l.pieces)) ++ more)
    → GoesOn l.source.comments l.source.whole.now rs l.fn.self (map token (map piece_view l.pieces) ++ more)
