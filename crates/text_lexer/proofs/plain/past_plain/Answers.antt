use Rattle.std.proofs.Common.{◌≡◌, ap, sym, ◌∙◌, ◌-◌, ◌<◌, true, [], length, take, drop, get_or, arith}
use Rattle.std.proofs.lemmas.List.{drop_all}
use Rattle.text_lexer.specs.Blanks.{blank}
use Rattle.text_lexer.specs.Plain.{is_plain_blank}
use Rattle.text_lexer.proofs.Ascii.{blank_step}
use Rattle.text_lexer.proofs.plain.past_plain.Goals as goal

pub bytes-preserved : goal.bytes-preserved
bytes-preserved c =
    let within : c.bytes.at < length c.args.text.now = omega arith in
    let plain : is_plain_blank (get_or c.args.text.now c.bytes.at 0) ≡ true = cc in
    let step = blank_step c.args.comments c.bytes.ended c.args.text.now c.bytes.at within plain in
    cc

pub returns-clause-value : goal.returns-clause-value
returns-clause-value c =
    let text = c.args.text.now in
    let whole : length text ≡ c.bytes.at = omega arith in
    let nothing : length text - length text ≡ 0 = omega arith in
    let none : drop (length text) text ≡ [] = drop_all (length text) text (omega arith) in
    ap (λ n. blank c.args.comments c.bytes.ended (take n (drop (length text) text))) nothing
    ∙ ap (λ t. blank c.args.comments c.bytes.ended t) (sym none)
    ∙ ap (λ n. blank c.args.comments c.bytes.ended (drop n text)) whole
    ∙ c.bytes.invariant
