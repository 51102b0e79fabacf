use Rattle.text_kept_laws.proofs.pieces_laws.bound_names_alone_differ.Goals as goal
use Rattle.text_kept_laws.proofs.PiecesBound.{bound_pieces}

-- src/pieces_laws.rt
pub returns : goal.returns
returns c = bound_pieces
