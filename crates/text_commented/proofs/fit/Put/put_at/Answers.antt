use Rattle.text_commented.proofs.Puts.{put_then, put_there}
use Rattle.text_commented.proofs.fit.Put.put_at.Goals as goal

pub order-preserved : goal.order-preserved
order-preserved c = put_then _ _ _ _ _ _ _ _ _ _ _ _ c.order.invariant c.in_ok-next.ensures

pub returns : goal.returns
returns c = put_there _ _ _ _ _ _ _ _ c.order.invariant
