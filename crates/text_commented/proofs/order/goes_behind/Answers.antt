use Rattle.std.proofs.Common.{arith}
use Rattle.text_commented.proofs.InOrder.{goes_there}
use Rattle.text_commented.proofs.order.goes_behind.Goals as goal

pub returns-in-Some : goal.returns-in-Some
returns-in-Some c = λ yes. (omega arith, goes_there c.args.remarks.now c.args.one c.args.other c.in-Some.remark c.in-Some.ensures (c.stands_at.ensures yes))
