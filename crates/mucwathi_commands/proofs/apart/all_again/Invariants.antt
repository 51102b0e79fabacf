use Rattle.std.proofs.Common.{◌≡◌, map, take}
use denote.Shadow.{shadow}
use denote.Text.{Utf8}
use Rattle.text_pieces.specs.Tokens.{piece_view}
use Rattle.mucwathi_commands.proofs.apart.all_again.Given as goal

abbrev pub invariant-pieces : goal.invariant-pieces
invariant-pieces l = shadow (Utf8 l.rest) × (map piece_view l.list.items ≡ map piece_view (take l.i l.pieces))
