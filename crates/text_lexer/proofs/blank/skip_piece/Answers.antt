use Rattle.std.proofs.Common.{◌≡◌, true, get_or, sym}
use Rattle.text_lexer.specs.Plain.{is_plain_blank, is_plain_stop}
use Rattle.text_lexer.proofs.Ascii.{blank_is, stop_is}
use Rattle.text_lexer.proofs.blank.skip_piece.Goals as goal

pub returns-then-is_plain_stop-clause-value : goal.returns-then-is_plain_stop-clause-value
returns-then-is_plain_stop-clause-value c =
    let plain : is_plain_stop (get_or c.args.text.now 0 0) ≡ true = cc in
    sym (stop_is c.args.comments c.args.ended c.args.text.now plain)

pub returns-then-is_plain_blank-clause-value : goal.returns-then-is_plain_blank-clause-value
returns-then-is_plain_blank-clause-value c =
    let plain : is_plain_blank (get_or c.args.text.now 0 0) ≡ true = cc in
    let is = blank_is c.args.comments c.args.ended c.args.text.now plain in
    cc
