use Rattle.std.proofs.Common.{arith}
use Rattle.text_commented.proofs.Chosen.{begins_nearest, stops_nearest}
use Rattle.text_commented.proofs.choose.nearer.Goals as goal

pub returns-then-saturating_sub : goal.returns-then-saturating_sub
returns-then-saturating_sub c = λ all last first. stops_nearest all c.args.comment c.args.stopped c.args.begun last first (omega arith)

pub returns-else-saturating_sub : goal.returns-else-saturating_sub
returns-else-saturating_sub c = λ all last first. begins_nearest all c.args.comment c.args.stopped c.args.begun last first (omega arith)
