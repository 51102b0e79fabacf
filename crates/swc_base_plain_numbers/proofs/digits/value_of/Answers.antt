use Rattle.std.proofs.Common.{arith}
use Rattle.swc_base_plain_numbers.proofs.Values.{whole_value}
use Rattle.swc_base_plain_numbers.proofs.digits.value_of.Goals as goal

pub returns : goal.returns
returns c = whole_value c.args.base c.loop-byte.value c.loop-byte.byte-index c.args.digits.now c.loop-byte.invariant.1 (omega arith) c.loop-byte.invariant.0
