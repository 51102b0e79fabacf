use Rattle.text_commented.proofs.Listed.{never}
use Rattle.text_commented.proofs.order.are_apart.Goals as goal

pub returns : goal.returns
returns c = λ yes same. never c.same_place.result (c.same_place.ensures.1 same) c.if-same_place.false
