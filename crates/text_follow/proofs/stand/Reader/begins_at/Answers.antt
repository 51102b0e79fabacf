use Rattle.std.proofs.Common.{Some, refl}
use Rattle.text_pieces.specs.Tokens.{begins, frame}
use Rattle.text_follow.proofs.Frames.{leads_past}
use Rattle.text_follow.proofs.stand.Reader.begins_at.Goals as goal

pub returns-in-Some : goal.returns-in-Some
returns-in-Some c told =
    let old = c.args.self.now in
    record {
      whole = refl;
      comments = refl;
      soft = refl;
      known = c.in-Some.ensures.next;
      leads = λ k.
          let next = c.in-Some.ensures.next k in
          leads_past old.whole old.comments old.soft old.place (record old.place { next = Some c.in-Some.next }) (frame (begins c.args.at))
          (next.0, c.in-Some.next.now, next.1, c.in-Some.ensures.begins) refl refl refl;
    }
