use Rattle.std.proofs.Common.{◌≡◌, drop, map}
use Rattle.std.specs.Cmp.Lexicographic.{pointwise}
use Rattle.text_edit.specs.Alike.{is_same}
use Rattle.text_pieces.specs.Tokens.{piece_view}
use Rattle.text_edit.proofs.alike.are_same.Given as goal

abbrev pub invariant-pieces : goal.invariant-pieces
invariant-pieces l =
    pointwise is_same (map piece_view (drop l.i l.before)) (map piece_view (drop l.i l.after))
    ≡ pointwise is_same (map piece_view l.before) (map piece_view l.after)
