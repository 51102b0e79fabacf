use Rattle.std.proofs.Common.{false, true, map, refl, subst, arith, ◌+◌, ◌∙◌}
use Rattle.std.proofs.lemmas.List.{take_rest}
use Rattle.text_pieces.specs.Tokens.{piece_view}
use Rattle.text_commented.specs.Places.{places_from}
use Rattle.text_commented.specs.Sites.{IsSites}
use Rattle.text_commented.proofs.Listed.{leads_all, leads_more, trails_all, trails_more}
use Rattle.text_commented.proofs.sites.sites_of.Goals as goal

pub pieces-preserved : goal.pieces-preserved
pieces-preserved c =
    let l = c.pieces in
    let ps = c.args.pieces.now in
    let rest = take_rest c.args.pieces.now (l.i + 1) in
    let next = c.line_behind-line.result in
    record {
      begun = leads_more false l.line next false ps _ l.i _ l.all.begun.items _ (omega arith) rest c.line_behind-line.ensures refl c.in_ok-add.ensures.begun ∙ l.invariant.begun;
      stopped = trails_more false l.line next false ps _ l.i _ l.all.stopped.items _ (omega arith) rest c.line_behind-line.ensures refl c.in_ok-add.ensures.stopped ∙ l.invariant.stopped;
      tight_begun = leads_more true l.line next next ps _ l.i _ l.tight.begun.items _ (omega arith) rest c.line_behind-line.ensures refl c.in_ok-add-2.ensures.begun ∙ l.invariant.tight_begun;
      tight_stopped = trails_more true l.line next next ps _ l.i _ l.tight.stopped.items _ (omega arith) rest c.line_behind-line.ensures refl c.in_ok-add-2.ensures.stopped ∙ l.invariant.tight_stopped;
    }

pub returns : goal.returns
returns c =
    let l = c.pieces in
    let ps = map piece_view c.args.pieces.now in
    let line = c.may_end_line-line.result in
    record {
      all = subst (λ b. IsSites c.in_ok-all.all (places_from false b ps)) c.may_end_line-line.ensures
          (c.in_ok-all.ensures (places_from false line ps) (leads_all false l.line c.args.pieces.now l.i _ _ (omega arith) l.invariant.begun)
          (trails_all false l.line c.args.pieces.now l.i _ _ (omega arith) l.invariant.stopped));
      tight = subst (λ b. IsSites c.in_ok-tight.tight (places_from true b ps)) c.may_end_line-line.ensures
          (c.in_ok-tight.ensures (places_from true line ps) (leads_all true l.line c.args.pieces.now l.i _ _ (omega arith) l.invariant.tight_begun)
          (trails_all true l.line c.args.pieces.now l.i _ _ (omega arith) l.invariant.tight_stopped));
    }
