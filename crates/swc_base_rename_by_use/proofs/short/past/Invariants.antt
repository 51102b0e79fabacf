use Rattle.std.proofs.Common.{◌≡◌, ◌≤◌, ◌+◌, drop}
use Rattle.swc_base_rename_by_use.specs.ShortTexts.{past}
use Rattle.swc_base_rename_by_use.proofs.short.past.Given as goal

-- what is left of the places decides
abbrev pub invariant-loop-place : goal.invariant-loop-place
invariant-loop-place l = record {
  left : past l.taken l.fn.place ≡ past (drop l.place-index l.taken) l.left;
  few : l.left ≤ l.fn.place + l.place-index;
}
