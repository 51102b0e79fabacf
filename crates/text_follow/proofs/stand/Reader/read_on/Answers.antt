use Rattle.std.proofs.Common.{refl}
use Rattle.text_pieces.specs.Tokens.{piece_view}
use Rattle.text_follow.proofs.Frames.{leads_past}
use Rattle.text_follow.proofs.stand.Reader.read_on.Goals as goal

pub returns-in-Some : goal.returns-in-Some
returns-in-Some c told = record {
  whole = refl;
  comments = refl;
  soft = refl;
  known = c.in-Some.ensures.known;
  leads = λ k. leads_past c.args.self.now.whole c.args.self.now.comments c.args.self.now.soft c.args.self.now.place c.in-Some.next (piece_view c.args.piece)
      (c.in-Some.ensures.so k) c.in-Some.ensures.takes c.in-Some.ensures.fresh c.in-Some.ensures.ending;
}
