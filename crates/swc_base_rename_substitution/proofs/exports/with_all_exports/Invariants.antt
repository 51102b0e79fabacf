use Rattle.std.proofs.Common.{◌≡◌, ◌++◌, drop, length}
use Rattle.swc_base_rename_substitution.proofs.exports.with_all_exports.Given as goal
use Rattle.swc_base_rename_substitution.specs.Walk.{each_with_exports}

abbrev pub invariant-loop-i : goal.invariant-loop-i
invariant-loop-i l = record {
  sizes : length l.items ≡ length l.exports;
  same : length l.items ≡ length l.initial.items;
  done : l.all ++ each_with_exports (drop l.i l.items) (drop l.i l.exports) ≡ each_with_exports l.initial.items l.initial.exports;
}
