use Rattle.std.proofs.Common.{◌≡◌, ◌++◌, take}
use Rattle.mucwathi_mappings.specs.Quoted.{escaped_all}
use Rattle.mucwathi_mappings.proofs.quoted.add_bytes.Given as goal

abbrev pub invariant-loop-byte : goal.invariant-loop-byte
invariant-loop-byte l = l.out.items ≡ l.initial.out.items ++ escaped_all (take l.byte-index l.text)
