use Rattle.std.proofs.Common.{◌≡◌, suc, ◌+◌, ◌-◌, length, sym, arith}
use Rattle.std.proofs.lemmas.Grind.{common_steps}
use Rattle.text_lexer.specs.Blanks.{past, skip_piece, stop, unclosed}
use Rattle.text_comments.specs.Comments.{among, skipped}
use Rattle.text_comments.proofs.Walks.{among_end, among_past, among_stop, among_unclosed, added, stopped}
use Rattle.text_comments.proofs.find.add_among.Goals as goal

pub returns-in-Stop : goal.returns-in-Stop
returns-in-Stop c =
    let l = c.blanks in
    let more : length c.args.text.now - l.turn ≡ suc (length c.args.text.now - (l.turn + 1)) = omega arith in
    let next : skip_piece c.args.source.comments l.ended l.rest.now ≡ stop = grind (arith, common_steps, c.in-Stop.ensures.value) in
    stopped l.found.items c.args.found.now.items _ (among (length c.args.text.now) c.args.source.comments c.args.source.whole.now c.args.between.trails c.args.between.leads c.args.fresh c.args.text.now) (among_stop _ _ c.args.source.comments c.args.source.whole.now c.args.between.trails c.args.between.leads l.ended l.rest.now more next) l.invariant

pub returns-in-Unclosed : goal.returns-in-Unclosed
returns-in-Unclosed c =
    let l = c.blanks in
    let more : length c.args.text.now - l.turn ≡ suc (length c.args.text.now - (l.turn + 1)) = omega arith in
    let next : skip_piece c.args.source.comments l.ended l.rest.now ≡ unclosed = grind (arith, common_steps, c.in-Unclosed.ensures.value) in
    stopped l.found.items c.args.found.now.items _ (among (length c.args.text.now) c.args.source.comments c.args.source.whole.now c.args.between.trails c.args.between.leads c.args.fresh c.args.text.now) (among_unclosed _ _ c.args.source.comments c.args.source.whole.now c.args.between.trails c.args.between.leads l.ended l.rest.now more next) l.invariant

pub blanks-preserved : goal.blanks-preserved
blanks-preserved c =
    let l = c.blanks in
    let more : length c.args.text.now - l.turn ≡ suc (length c.args.text.now - (l.turn + 1)) = omega arith in
    let next : skip_piece c.args.source.comments l.ended l.rest.now ≡ past c.in-Past.now_ended c.in-Past.behind.now = grind (arith, common_steps, c.in-Past.ensures.value) in
    added l.found.items c.args.found.now.items _ (among (length c.args.text.now) c.args.source.comments c.args.source.whole.now c.args.between.trails c.args.between.leads c.args.fresh c.args.text.now) c.add_skipped.new.found.items _ _ c.in_ok-add_skipped-in-Past.ensures (among_past _ _ c.args.source.comments c.args.source.whole.now c.args.between.trails c.args.between.leads l.ended c.in-Past.now_ended l.rest.now c.in-Past.behind.now more next) l.invariant

pub returns : goal.returns
returns c =
    let l = c.blanks in
    let none : length c.args.text.now - l.turn ≡ 0 = omega arith in
    stopped l.found.items c.args.found.now.items _ (among (length c.args.text.now) c.args.source.comments c.args.source.whole.now c.args.between.trails c.args.between.leads c.args.fresh c.args.text.now) (among_end _ c.args.source.comments c.args.source.whole.now c.args.between.trails c.args.between.leads l.ended l.rest.now none) l.invariant
