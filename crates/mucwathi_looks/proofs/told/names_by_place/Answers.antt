use Rattle.std.proofs.Common.{get_or, refl, arith}
use Rattle.mucwathi_looks.proofs.MappedNaming.{names_all, names_step, no_names, no_spot}
use Rattle.mucwathi_looks.proofs.told.names_by_place.Goals as goal

pub loop-spot-init : goal.loop-spot-init
loop-spot-init c = no_names c.new-names.result c.new-names.ensures.empty

pub loop-spot-preserved : goal.loop-spot-preserved
loop-spot-preserved c =
    names_step c.args.spots.now c.loop-spot.spot-index no_spot (get_or c.args.spots.now c.loop-spot.spot-index no_spot) c.loop-spot.names c.note.new.names c.loop-spot-test.true refl c.loop-spot.invariant c.in_ok-note.ensures

pub returns : goal.returns
returns c = names_all c.args.spots.now c.loop-spot.spot-index c.loop-spot.names (omega arith) c.loop-spot.invariant
