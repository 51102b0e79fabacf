use Rattle.std.proofs.Common.{◌≡◌, ◌≤◌, ◌+◌, drop}
use Rattle.swc_base_rename_by_use.specs.ShortTexts.{before}
use Rattle.swc_base_rename_by_use.proofs.short.before.Given as goal

-- those that were counted, and those that are left
abbrev pub invariant-loop-other : goal.invariant-loop-other
invariant-loop-other l = record {
  counted : before l.taken l.place ≡ l.count + before (drop l.other-index l.taken) l.place;
  few : l.count ≤ l.other-index;
}
