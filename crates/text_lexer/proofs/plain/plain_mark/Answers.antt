use Rattle.std.proofs.Common.{◌≡◌, get_or}
use Rattle.text_lexer.specs.Plain.{lone_mark}
use Rattle.text_lexer.proofs.Ascii.{mark_is, mark_some}
use Rattle.text_lexer.proofs.plain.plain_mark.Goals as goal

pub returns-clause-value : goal.returns-clause-value
returns-clause-value c =
    let told : c.lone_mark.result ≡ lone_mark c.args.goal (get_or c.args.text.now 0 0) (get_or c.args.text.now 1 0) = cc in
    mark_is c.args.goal c.args.text.now c.lone_mark.result told

pub returns-clause-some : goal.returns-clause-some
returns-clause-some c =
    let told : c.lone_mark.result ≡ lone_mark c.args.goal (get_or c.args.text.now 0 0) (get_or c.args.text.now 1 0) = cc in
    mark_some c.args.goal c.args.text.now c.lone_mark.result told
