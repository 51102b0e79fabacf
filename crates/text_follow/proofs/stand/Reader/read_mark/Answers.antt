use Rattle.std.proofs.Common.{refl, subst, sym}
use Rattle.text_pieces.specs.Tokens.{punctuator}
use Rattle.text_follow.specs.Follows.{Reads}
use Rattle.text_follow.proofs.Frames.{leads_past}
use Rattle.text_follow.proofs.stand.Reader.read_mark.Goals as goal

pub returns-in-Some : goal.returns-in-Some
returns-in-Some c told =
    let old = c.args.self.now in
    let behind = c.behind_token-self.ensures in
    record {
      whole = refl;
      comments = refl;
      soft = refl;
      known = λ k. behind.known old.comments;
      leads = λ k.
          let reads = subst (Reads old.comments old.place.fresh old.place.rest.now (punctuator c.args.mark)) (sym behind.rest) (c.in-Some.ensures k) in
          leads_past old.whole old.comments old.soft old.place c.behind_token-self.result (punctuator c.args.mark) tt reads behind.fresh behind.ending;
    }
