use Rattle.std.proofs.Common.{arith, get_or, refl}
use Rattle.mucwathi_mappings.proofs.Standing.{no_node, places_all, places_none, places_step}
use Rattle.mucwathi_mappings.proofs.nodes.by_place.Goals as goal

pub loop-node-init : goal.loop-node-init
loop-node-init c = places_none c.new-places.result c.new-places.ensures.empty

pub loop-node-preserved : goal.loop-node-preserved
loop-node-preserved c =
    places_step c.args.mapped.now c.loop-node.node-index no_node (get_or c.args.mapped.now c.loop-node.node-index no_node) c.loop-node.places c.insert.new.self c.loop-node-test.true refl c.loop-node.invariant c.in_ok-insert.ensures.updates

pub returns : goal.returns
returns c = places_all c.args.mapped.now c.loop-node.node-index c.loop-node.places (omega arith) c.loop-node.invariant
