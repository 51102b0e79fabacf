use Rattle.text_kept_laws.proofs.pieces_laws.names_alone_differ.Goals as goal
use Rattle.text_kept_laws.proofs.PiecesWhole.{one_form}

-- src/pieces_laws.rt
pub returns : goal.returns
returns c = one_form
