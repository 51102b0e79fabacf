use Rattle.std.proofs.Common.{arith, refl}
use Rattle.swc_tree_grammar.specs.Pairs.{moves_of}
use Rattle.swc_base_fixer_unparen.proofs.Moves.{one_more, partly_more, refused}
use Rattle.swc_base_fixer_unparen.proofs.comments.move_pairs.Goals as goal

pub returns-in_err-move_pair : goal.returns-in_err-move_pair
returns-in_err-move_pair g c =
    refused g.C.Comments.moved _ _ _ _ c.from_residual.ensures.0
    (partly_more g.C.Comments.moved moves_of _ c.loop-pair.comments _ c.args.pairs.now c.loop-pair.pair-index _ _ (omega arith) refl c.loop-pair.invariant c.in_err-move_pair.ensures)

pub loop-pair-preserved : goal.loop-pair-preserved
loop-pair-preserved g c =
    one_more g.C.Comments.moved moves_of _ c.loop-pair.comments _ c.args.pairs.now c.loop-pair.pair-index _ _ (omega arith) refl c.loop-pair.invariant c.in_ok-move_pair.ensures
