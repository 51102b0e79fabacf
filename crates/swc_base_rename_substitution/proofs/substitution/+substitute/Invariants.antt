use Rattle.std.proofs.Common.{◌≡◌, ◌++◌, take, drop, length}
use Rattle.swc_base_rename_substitution.specs.Names.{new_id}
use Rattle.swc_base_rename_substitution.proofs.substitution.+substitute.Given as goal
use Rattle.swc_base_rename_substitution.specs.Walk.{place_in, each_substituted}

abbrev pub invariant-substitute_all-loop-i : goal.invariant-substitute_all-loop-i
invariant-substitute_all-loop-i l = record {
  size : length l.nodes ≡ length l.initial.nodes;
  done : l.nodes ≡ each_substituted (new_id l.names) l.keeps_classes (place_in l.keeps_classes l.below) (take l.i l.initial.nodes) ++ drop l.i l.initial.nodes;
}
