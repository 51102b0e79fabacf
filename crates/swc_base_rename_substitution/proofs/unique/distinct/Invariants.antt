use Rattle.std.proofs.Common.{◌≡◌}
use Rattle.swc_base_rename_substitution.specs.Exports.{AreSeen, distinct}
use Rattle.swc_base_rename_substitution.proofs.unique.distinct.Given as goal

abbrev pub invariant-loop-id : goal.invariant-loop-id
invariant-loop-id l = record {
  kept : l.kept ≡ distinct l.yielded;
  seen : AreSeen l.kept l.seen.contexts;
}
