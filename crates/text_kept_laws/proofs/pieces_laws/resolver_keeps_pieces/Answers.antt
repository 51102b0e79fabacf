use Rattle.text_kept_laws.proofs.pieces_laws.resolver_keeps_pieces.Goals as goal
use Rattle.text_kept_laws.proofs.PiecesWhole.{resolved_pieces}

-- src/pieces_laws.rt
pub returns : goal.returns
returns c = resolved_pieces
