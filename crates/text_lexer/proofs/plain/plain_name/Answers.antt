use Rattle.std.proofs.Common.{◌≡◌, true, get_or}
use Rattle.text_lexer.specs.Plain.{is_plain_end, is_plain_start}
use Rattle.text_lexer.proofs.Ascii.{name_is}
use Rattle.text_lexer.proofs.plain.plain_name.Goals as goal

pub returns-then-is_plain_end-clause-value : goal.returns-then-is_plain_end-clause-value
returns-then-is_plain_end-clause-value c some =
    let n = c.plain_parts-len.result in
    let starts : is_plain_start (get_or c.args.text.now 0 0) ≡ true = cc in
    let ends : is_plain_end (get_or c.args.text.now n 0) ≡ true = cc in
    name_is c.args.goal c.args.text.now n c.plain_parts-len.ensures.value starts ends
