use Rattle.swc_base_fixer_unparen.proofs.Moves.{one_made, refused}
use Rattle.swc_base_fixer_unparen.proofs.comments.move_pair.Goals as goal

pub returns-in_err-move_trailing : goal.returns-in_err-move_trailing
returns-in_err-move_trailing g c =
    refused g.C.Comments.moved _ _ _ _ c.from_residual-in_err-move_trailing.ensures.0
    (one_made g.C.Comments.moved _ _ _ _ _ c.in_ok-move_leading.ensures.made c.in_err-move_trailing.ensures.refused)
