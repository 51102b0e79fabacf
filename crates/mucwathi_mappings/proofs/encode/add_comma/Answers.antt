use Rattle.mucwathi_mappings.proofs.Telling.{comma_added, no_comma}
use Rattle.mucwathi_mappings.proofs.encode.add_comma.Goals as goal

pub returns-in_ok-push : goal.returns-in_ok-push
returns-in_ok-push c = comma_added c.args.begun c.args.out.now.items c.push.new.self.items c.if-begun.true c.in_ok-push.ensures.items

pub returns-else-begun : goal.returns-else-begun
returns-else-begun c = no_comma c.args.begun c.args.out.now.items c.if-begun.false
