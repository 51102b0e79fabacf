use Rattle.std.proofs.Common.{arith}
use Rattle.text_commented.proofs.choose.stops_before.Goals as goal

pub returns-then-comment-eq0 : goal.returns-then-comment-eq0
returns-then-comment-eq0 c = λ all are. (λ yes. absurd (cc), λ stops. absurd (omega arith))

pub returns : goal.returns
returns c = λ all are. (λ yes. (omega arith, (c.has.ensures all are).0 yes), λ stops. (c.has.ensures all are).1 stops.1)
