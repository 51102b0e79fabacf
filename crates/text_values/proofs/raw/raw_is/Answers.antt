use Rattle.std.proofs.Common.{◌≡◌, ◌∙◌, ◌<◌, ◌≤◌, ◌+◌, ◌==◌, ap, sym, length, drop, get_or, Some, None, arith}
use Rattle.std.proofs.lemmas.Grind.{common_steps}
use Rattle.std.specs.Prelude.{bytes_eq}
use Rattle.text_values.specs.Values.{raw_byte, template_raw, past_raw}
use Rattle.text_values.proofs.RawBytes.{template_raw_drop, template_raw_end, raw_more, raw_stop, raw_done}
use Rattle.text_values.proofs.raw.raw_is.Goals as goal

pub bytes-preserved : goal.bytes-preserved
bytes-preserved c =
    let l = c.bytes in
    let text = c.args.text.now in
    let within : l.at < length text = omega arith in
    let b = raw_byte (get_or text l.at 0) (get_or text (l.at + 1) 0) in
    let past : past_raw l.left.now b ≡ Some c.in-Some.rest.now = grind (arith, common_steps, c.in-Some.ensures) in
    sym (raw_more b (template_raw (drop (l.at + 1) text)) l.left.now c.in-Some.rest.now past)
    ∙ sym (ap (λ t. bytes_eq t l.left.now) (template_raw_drop text l.at within)) ∙ l.invariant

pub returns-in-None : goal.returns-in-None
returns-in-None c =
    let l = c.bytes in
    let text = c.args.text.now in
    let within : l.at < length text = omega arith in
    let b = raw_byte (get_or text l.at 0) (get_or text (l.at + 1) 0) in
    let past : past_raw l.left.now b ≡ None = grind (arith, common_steps, c.in-None.ensures) in
    sym (raw_stop b (template_raw (drop (l.at + 1) text)) l.left.now past)
    ∙ sym (ap (λ t. bytes_eq t l.left.now) (template_raw_drop text l.at within)) ∙ l.invariant

pub returns : goal.returns
returns c =
    let l = c.bytes in
    let done = template_raw_end c.args.text.now l.at (omega arith) in
    let same = sym (ap (λ t. bytes_eq t l.left.now) done ∙ raw_done l.left.now) ∙ l.invariant in
    grind (arith, common_steps)
