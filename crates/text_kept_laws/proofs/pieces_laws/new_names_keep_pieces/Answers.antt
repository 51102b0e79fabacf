use Rattle.swc_tree_grammar.specs.Normal.{normal_form}
use Rattle.text_kept_laws.proofs.pieces_laws.new_names_keep_pieces.Goals as goal
use Rattle.text_kept_laws.proofs.PiecesWhole.{one_form}

-- src/pieces_laws.rt
pub returns : goal.returns
returns c = λ m tree answer program writable given. one_form (normal_form tree) (normal_form answer) (c.normal_form_keeps_spans.ensures m tree answer program writable given)
