use Rattle.std.proofs.Common.{◌≡◌, get_or, subst, arith, ◌∙◌}
use Rattle.std.proofs.lemmas.List.{get_or_default}
use Rattle.text_commented.specs.Commented.{ComesBefore}
use Rattle.text_commented.proofs.order.come_before.Goals as goal

pub returns : goal.returns
returns c = λ yes m among.
    let l = c.near in
    let (k, within, is) = among in
    let here : get_or c.args.near.now k 0 ≡ m = get_or_default c.args.near.now k 0 m within ∙ is in
    subst (λ x. ComesBefore c.args.remarks.now x c.args.number) here (l.invariant k (omega arith))
