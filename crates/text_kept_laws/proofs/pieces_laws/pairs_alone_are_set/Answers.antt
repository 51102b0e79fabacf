use Rattle.text_kept_laws.proofs.pieces_laws.pairs_alone_are_set.Goals as goal
use Rattle.text_kept_laws.proofs.PiecesWhole.{due_pieces}

-- src/pieces_laws.rt
pub returns : goal.returns
returns c = due_pieces
