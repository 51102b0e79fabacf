use Rattle.std.proofs.Common.{map}
use Rattle.text_pieces.specs.Tokens.{piece_view}
use Rattle.text_commented.specs.Steps.{placed_view}
use Rattle.text_commented.proofs.Sets.{follows_merged}
use Rattle.text_commented.proofs.print.check.Goals as goal

pub returns-clause-follows : goal.returns-clause-follows
returns-clause-follows c =
    follows_merged c.args.comments c.args.remarks.now (map piece_view c.args.pieces.now) (map placed_view c.args.placed.now) c.args.text.now c.in_ok-hold.ensures
