use Rattle.std.proofs.Common.{map}
use Rattle.text_pieces.specs.Tokens.{piece_view}
use Rattle.text_edit.proofs.Steps.{done_edited, led}
use Rattle.text_edit.proofs.walk.apply.Goals as goal

pub pieces-preserved : goal.pieces-preserved
pieces-preserved c =
    led c.args.comments (map piece_view c.args.before.now) (map piece_view c.args.after.now) c.args.text.now c.pieces.cursor c.in_ok-left.next c.pieces.out.items c.go_on.new.out.items
    c.in_ok-left.ensures c.pieces.invariant

pub returns : goal.returns
returns c =
    done_edited c.args.comments (map piece_view c.args.before.now) (map piece_view c.args.after.now) c.args.text.now c.finish.new.out.items c.pieces.cursor c.pieces.out.items
    c.pieces.invariant c.in_ok-finish.ensures.olds c.in_ok-finish.ensures.news c.in_ok-finish.ensures.rest
