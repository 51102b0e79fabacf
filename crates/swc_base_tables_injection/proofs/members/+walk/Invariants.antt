use Rattle.std.proofs.Common.{◌≡◌, ◌++◌, take, drop, length}
use Rattle.swc_base_tables_injection.proofs.members.+walk.Given as goal
use Rattle.swc_base_tables_injection.specs.Walk.{each_membered, seats}

abbrev pub invariant-write_each-loop-i : goal.invariant-write_each-loop-i
invariant-write_each-loop-i l = record {
  size : length l.nodes ≡ length l.initial.nodes;
  done : l.nodes ≡ each_membered l.helper (seats l.below) (take l.i l.initial.nodes) ++ drop l.i l.initial.nodes;
}
