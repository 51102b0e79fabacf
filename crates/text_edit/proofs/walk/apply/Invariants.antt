use Rattle.std.proofs.Common.{map}
use Rattle.text_pieces.specs.Tokens.{piece_view}
use Rattle.text_edit.specs.Moves.{Leads}
use Rattle.text_edit.proofs.walk.apply.Given as goal

abbrev pub invariant-pieces : goal.invariant-pieces
invariant-pieces l = Leads l.comments (map piece_view l.before) (map piece_view l.after) l.text l.cursor l.out.items
