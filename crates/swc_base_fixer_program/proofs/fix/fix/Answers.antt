use Rattle.std.proofs.Common.{sym}
use Rattle.swc_base_fixer_program.proofs.Sets.{own_record}
use Rattle.swc_base_fixer_program.proofs.fix.fix.Goals as goal

pub returns : goal.returns
returns c = own_record c.in_ok-pairs.pairs c.args.node c.in_ok-node.node c.in_ok-pairs.ensures (rw (sym c.as_slice.ensures) c.in_ok-node.ensures)
