use Rattle.std.proofs.Common.{false, length, map, replicate, arith}
use Rattle.text_pieces.specs.Tokens.{piece_view}
use Rattle.text_commented.specs.Steps.{placed_view}
use Rattle.text_commented.proofs.Puts.{all_put, one_piece}
use Rattle.text_commented.proofs.fit.put_among.Goals as goal

pub pieces-preserved : goal.pieces-preserved
pieces-preserved c = λ more now behind after.
    let l = c.pieces in
    one_piece c.args.given.remarks.now (replicate (length c.args.given.remarks.now) false) (map piece_view c.args.pieces.now) c.args.pieces.now l.i _ (map placed_view l.put.placed.items)
    (map placed_view c.put_behind.new.self.placed.items) more l.put.used.items c.put_behind.new.self.used.items now (omega arith) c.in_ok-put_behind.ensures behind after l.invariant

pub returns : goal.returns
returns c =
    let l = c.pieces in
    all_put c.args.given.remarks.now (replicate (length c.args.given.remarks.now) false) (map piece_view c.args.pieces.now) c.args.pieces.now l.i (map placed_view l.put.placed.items) l.put.used.items (omega arith)
    l.invariant
