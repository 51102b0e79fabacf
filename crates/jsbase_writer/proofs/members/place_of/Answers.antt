use Rattle.std.proofs.Common.{arith, sym}
use Rattle.jsbase_writer.proofs.Places.{below_more}
use Rattle.jsbase_writer.proofs.members.place_of.Goals as goal

pub loop-place-preserved : goal.loop-place-preserved
loop-place-preserved c = (omega arith, below_more c.args.key.now c.args.members.now c.loop-place.place _ (omega arith) c.loop-place.invariant.1 (sym c.in-Greater.ensures))
