use Rattle.std.proofs.Common.{◌≡◌, ◌++◌, map, take, drop, length}
use Rattle.swc_tree_scoping.specs.Readings.{by_texts}
use Rattle.swc_base_rename_substitution.proofs.contexts.+clear.Given as goal

abbrev pub invariant-clear_all-loop-i : goal.invariant-clear_all-loop-i
invariant-clear_all-loop-i l = record {
  size : length l.nodes ≡ length l.initial.nodes;
  done : l.nodes ≡ map by_texts (take l.i l.initial.nodes) ++ drop l.i l.initial.nodes;
}
