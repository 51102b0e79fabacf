use Rattle.std.proofs.Common.{◌++◌, sym, ap, ◌∙◌, arith}
use Rattle.text_commented.proofs.Steps.{number_more, put_more}
use Rattle.text_commented.proofs.left.numbers_left.Goals as goal

pub used-preserved-then-used-number : goal.used-preserved-then-used-number
used-preserved-then-used-number c =
    let l = c.used in
    ap (λ m. l.numbers.items ++ m) (sym (put_more c.args.used.now l.number _ (omega arith) c.if-used-number.true)) ∙ l.invariant

pub used-preserved : goal.used-preserved
used-preserved c =
    let l = c.used in
    number_more l.numbers.items _ c.args.used.now l.number _ (omega arith) c.if-used-number.false c.in_ok-push.ensures.items ∙ l.invariant
