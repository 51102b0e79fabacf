use Rattle.std.proofs.Common.{◌≡◌, ◌∙◌, ◌-◌, ◌+◌, suc, length, sym, arith}
use Rattle.std.proofs.lemmas.Grind.{common_steps}
use Rattle.text_lexer.specs.Blanks.{skip_piece, stop, unclosed}
use Rattle.text_lexer.proofs.Walks.{blank_from_stop, blank_from_unclosed, blank_from_end}
use Rattle.text_lexer.proofs.blank.other_blank.Goals as goal

pub returns-in-Stop-clause-value : goal.returns-in-Stop-clause-value
returns-in-Stop-clause-value c =
    let l = c.pieces in
    let more : length c.args.text.now - l.turn ≡ suc (length c.args.text.now - (l.turn + 1)) = omega arith in
    let next : skip_piece c.args.comments l.ended l.rest.now ≡ stop = grind (arith, common_steps, c.in-Stop.ensures.value) in
    sym (blank_from_stop _ _ c.args.comments l.ended l.rest.now more next) ∙ l.invariant.same

pub returns-in-Unclosed-clause-value : goal.returns-in-Unclosed-clause-value
returns-in-Unclosed-clause-value c =
    let l = c.pieces in
    let more : length c.args.text.now - l.turn ≡ suc (length c.args.text.now - (l.turn + 1)) = omega arith in
    let next : skip_piece c.args.comments l.ended l.rest.now ≡ unclosed = grind (arith, common_steps, c.in-Unclosed.ensures.value) in
    sym (blank_from_unclosed _ _ c.args.comments l.ended l.rest.now more next) ∙ l.invariant.same

pub returns-clause-value : goal.returns-clause-value
returns-clause-value c =
    let l = c.pieces in
    let none : length c.args.text.now - l.turn ≡ 0 = omega arith in
    sym (blank_from_end _ c.args.comments l.ended l.rest.now none) ∙ l.invariant.same
