use Rattle.std.proofs.Common.{refl}
use Rattle.text_pieces.specs.Tokens.{frame, stops}
use Rattle.text_follow.proofs.Frames.{leads_past}
use Rattle.text_follow.proofs.stand.Reader.stops_at.Goals as goal

pub returns : goal.returns
returns c told =
    let at = c.args.self.now in
    record {
      whole = refl;
      comments = refl;
      soft = refl;
      known = λ k. k;
      leads = λ k. leads_past at.whole at.comments at.soft at.place at.place (frame (stops c.args.at)) (c.is_at.ensures told) refl refl refl;
    }
