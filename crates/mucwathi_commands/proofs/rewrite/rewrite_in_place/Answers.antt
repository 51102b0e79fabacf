use Rattle.mucwathi_commands.proofs.Rewritten.{none_lost}
use Rattle.mucwathi_commands.proofs.rewrite.rewrite_in_place.Goals as goal

pub returns-in-Ok : goal.returns-in-Ok
returns-in-Ok c = none_lost c.args.order.now c.args.text.now c.in-Ok.out.items c.new.result.items c.requires.kept c.in-Ok.ensures c.new.ensures.items
