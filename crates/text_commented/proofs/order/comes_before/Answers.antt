use Rattle.text_commented.proofs.InOrder.{are_apart}
use Rattle.text_commented.proofs.order.comes_before.Goals as goal

pub returns-in-Some-Some : goal.returns-in-Some-Some
returns-in-Some-Some c = λ yes.
    are_apart c.args.remarks.now c.args.one c.args.other c.in-Some-Some.remark c.in-Some-Some.another c.in-Some-Some.ensures c.in-Some-Some.ensures' (c.are_apart.ensures yes)
