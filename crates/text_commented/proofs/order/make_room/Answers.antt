use Rattle.std.proofs.Common.{subst, ◌∙◌}
use Rattle.std.proofs.lemmas.List.{append-nil}
use Rattle.text_commented.specs.Steps.{Covers}
use Rattle.text_commented.proofs.InOrder.{covers_more, room_made}
use Rattle.text_commented.proofs.order.make_room.Goals as goal

pub returns-in-Some : goal.returns-in-Some
returns-in-Some c = room_made c.args.remarks.now c.args.near.now.items _ c.put_back.new.near.items c.args.number c.put_back.result c.in-Some.ensures.items c.put_back.ensures

pub returns-in-None : goal.returns-in-None
returns-in-None c = λ those covers.
    covers_more c.args.remarks.now c.pop.new.self.items those c.args.number (subst (λ l. Covers c.args.remarks.now l those) (c.in-None.ensures.items ∙ append-nil c.pop.new.self.items) covers)
