use Rattle.std.proofs.Common.{arith}
use Rattle.mucwathi_mappings.proofs.Quoting.{escaped_end, escaped_push}
use Rattle.mucwathi_mappings.proofs.quoted.add_bytes.Goals as goal

pub loop-byte-preserved : goal.loop-byte-preserved
loop-byte-preserved c =
    escaped_push c.args.text.now c.loop-byte.byte-index c.args.out.now.items c.loop-byte.out.items c.add_byte.new.out.items c.loop-byte-test.true c.loop-byte.invariant c.in_ok-add_byte.ensures

pub returns : goal.returns
returns c = escaped_end c.args.text.now c.loop-byte.byte-index c.args.out.now.items c.loop-byte.out.items (omega arith) c.loop-byte.invariant
