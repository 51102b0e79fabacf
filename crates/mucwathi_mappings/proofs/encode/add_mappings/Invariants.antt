use Rattle.std.proofs.Common.{map}
use Rattle.std.specs.Map.Iter.{deref_pair}
use Rattle.mucwathi_mappings.proofs.Placing.{Reaches}
use Rattle.mucwathi_mappings.proofs.Telling.{Tells}
use Rattle.mucwathi_mappings.proofs.encode.add_mappings.Given as goal

abbrev pub invariant-loop-place : goal.invariant-loop-place
invariant-loop-place l = record {
  told_so_far : Tells l.sides.read.now l.sides.written.now (map deref_pair l.yielded) l.names l.initial.out.items l.out.items l.told;
  reaches : Reaches l.sides.written.now (map deref_pair l.yielded) l.told.line;
}
