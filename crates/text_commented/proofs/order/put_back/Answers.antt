use Rattle.std.proofs.Common.{subst, sym}
use Rattle.text_commented.specs.Steps.{Covers}
use Rattle.text_commented.proofs.InOrder.{covers_instead, covers_more}
use Rattle.text_commented.proofs.order.put_back.Goals as goal

pub returns-then-goes_behind : goal.returns-then-goes_behind
returns-then-goes_behind c = λ those covers. covers_instead c.args.remarks.now c.args.near.now.items those c.args.last c.args.number covers (c.goes_behind.ensures c.if-goes_behind.true)

pub returns : goal.returns
returns c = λ those covers.
    covers_more c.args.remarks.now c.push.new.self.items those c.args.number (subst (λ l. Covers c.args.remarks.now l those) (sym c.in_ok-push.ensures.items) covers)
