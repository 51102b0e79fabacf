use Rattle.std.proofs.Common.{◌∷◌, subst, sym}
use Rattle.text_commented.specs.Steps.{Covers}
use Rattle.text_commented.proofs.order.add_near.Goals as goal

pub returns : goal.returns
returns c = λ those covers. subst (λ l. Covers c.args.remarks.now l (c.args.number ∷ those)) (sym c.in_ok-push.ensures.items) (c.in_ok-make_room.ensures those covers)
