use Rattle.std.proofs.Common.{arith}
use Rattle.swc_base_tables_injection.specs.Brought.{require_of}
use Rattle.swc_base_tables_injection.proofs.Lists.{one_pushed}
use Rattle.swc_base_tables_injection.proofs.brought.requires_of.Goals as goal

pub loop-name-preserved : goal.loop-name-preserved
loop-name-preserved c =
    one_pushed (require_of c.args.helper c.args.global) c.args.names.now _ _ c.loop-name.name-index c.name-item.result _ (omega arith)
    c.loop-name.invariant c.name-item.is (rw c.as_str.ensures at c.in_ok-node.ensures) c.in_ok-push.ensures.ok
