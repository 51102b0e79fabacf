use Rattle.std.proofs.lemmas.Result.{on_ok_weaker}
use Rattle.mucwathi_mappings.proofs.Telling.{way_back, way_forth}
use Rattle.mucwathi_mappings.proofs.digits.add_way.Goals as goal

pub returns-then-to-from : goal.returns-then-to-from
returns-then-to-from c = on_ok_weaker c.add_far.result (way_back c.args.from c.args.to c.args.out.now.items c.add_far.new.out.items c.if-to-from.true) c.add_far.ensures

pub returns : goal.returns
returns c = on_ok_weaker c.add_far-2.result (way_forth c.args.from c.args.to c.args.out.now.items c.add_far-2.new.out.items c.if-to-from.false) c.add_far-2.ensures
