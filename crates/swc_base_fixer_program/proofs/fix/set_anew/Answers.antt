use Rattle.swc_base_fixer_program.proofs.Sets.{by_record}
use Rattle.swc_base_fixer_program.proofs.fix.set_anew.Goals as goal

pub returns : goal.returns
returns c = by_record c.args.pairs.now c.in_ok-places.places c.args.node c.in_ok-node.node c.in_ok-node-2.node c.in_ok-node-3.node c.in_ok-places.ensures c.in_ok-node.ensures c.in_ok-node-2.ensures c.in_ok-node-3.ensures
