use Rattle.std.proofs.Common.{◌≡◌, map, take}
use Rattle.mucwathi_lists.specs.Changed.{all_changed, seen, told}
use Rattle.mucwathi_lists.proofs.changes.changes_between.Given as goal

abbrev pub invariant-loop-name : goal.invariant-loop-name
invariant-loop-name l = map told l.changes.items ≡ all_changed (map seen l.olds) (map seen (take l.name-index l.news))
