use Rattle.std.proofs.Common.{◌≡◌, drop}
use Rattle.swc_base_rename_analysis.specs.Hashed.{mixed_all}
use Rattle.swc_base_rename_analysis.proofs.hashed.mix_bytes.Given as goal

abbrev pub invariant-loop-byte : goal.invariant-loop-byte
invariant-loop-byte l = mixed_all l.fn.start l.bytes ≡ mixed_all l.hash (drop l.byte-index l.bytes)
