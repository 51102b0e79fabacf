use Rattle.std.proofs.Common.{◌≡◌, take}
use Rattle.swc_base_plain_numbers.specs.Numbers.{bare}
use Rattle.swc_base_plain_numbers.proofs.digits.bare.Given as goal

abbrev pub invariant-loop-byte : goal.invariant-loop-byte
invariant-loop-byte l = l.bytes.items ≡ bare (take l.byte-index l.text)
