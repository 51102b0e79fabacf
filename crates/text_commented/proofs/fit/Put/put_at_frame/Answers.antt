use Rattle.std.proofs.Common.{map, subst, sym}
use Rattle.text_pieces.specs.declared.piece.Frame.{Frame}
use Rattle.text_pieces.specs.Tokens.{frame_view}
use Rattle.text_commented.specs.Places.{places_at}
use Rattle.text_commented.specs.Steps.{PutsBehind, placed_view}
use Rattle.text_commented.proofs.Puts.{put_at_both, put_at_one}
use Rattle.text_commented.proofs.fit.Put.put_at_frame.Goals as goal

pub returns-in_ok-put_begun-in-Begins : goal.returns-in_ok-put_begun-in-Begins
returns-in_ok-put_begun-in-Begins c =
    subst (λ (f : Frame). PutsBehind c.args.given.remarks.now (places_at (frame_view f)) c.args.spot.before c.args.self.now.used.items (map placed_view c.args.self.now.placed.items) c.put_begun.new.self.used.items (map placed_view c.put_begun.new.self.placed.items))
    (sym c.in-Begins.is) (put_at_one _ _ _ _ _ _ _ c.in_ok-put_begun-in-Begins.ensures)

pub returns-in_ok-put_stopped-in-Stops : goal.returns-in_ok-put_stopped-in-Stops
returns-in_ok-put_stopped-in-Stops c =
    subst (λ (f : Frame). PutsBehind c.args.given.remarks.now (places_at (frame_view f)) c.args.spot.before c.args.self.now.used.items (map placed_view c.args.self.now.placed.items) c.put_stopped.new.self.used.items (map placed_view c.put_stopped.new.self.placed.items))
    (sym c.in-Stops.is) (put_at_one _ _ _ _ _ _ _ c.in_ok-put_stopped-in-Stops.ensures)

pub returns-in_ok-put_last-in-Named : goal.returns-in_ok-put_last-in-Named
returns-in_ok-put_last-in-Named c =
    subst (λ (f : Frame). PutsBehind c.args.given.remarks.now (places_at (frame_view f)) c.args.spot.before c.args.self.now.used.items (map placed_view c.args.self.now.placed.items) c.put_last.new.self.used.items (map placed_view c.put_last.new.self.placed.items))
    (sym c.in-Named.is) (put_at_both _ _ _ _ _ _ _ _ _ _ c.in_ok-put_at-in-Named.ensures c.in_ok-put_last-in-Named.ensures)
