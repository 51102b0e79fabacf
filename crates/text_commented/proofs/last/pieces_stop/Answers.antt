use Rattle.std.proofs.Common.{◌∙◌, arith}
use Rattle.text_commented.proofs.Lasting.{stop_all, stop_more}
use Rattle.text_commented.proofs.Noting.{stays_ready}
use Rattle.text_commented.proofs.last.pieces_stop.Goals as goal

pub pieces-preserved : goal.pieces-preserved
pieces-preserved c = record {
  behind = c.piece_stops.ensures.behind ∙ c.pieces.invariant.behind;
  ready = stays_ready c.pieces.noted c.piece_stops.new.noted c.pieces.invariant.ready c.piece_stops.ensures.behind c.piece_stops.ensures.listed;
  stop = stop_more c.args.noted.now.behind c.pieces.noted.behind c.args.pieces.now c.pieces.i _ (omega arith) c.pieces.invariant.behind (c.piece_stops.ensures.stops c.if-not-piece_stops.false) c.pieces.invariant.stop;
}

pub returns : goal.returns
returns c = λ yes. stop_all c.args.noted.now.behind c.args.pieces.now c.pieces.i (omega arith) c.pieces.invariant.stop
