use Rattle.std.proofs.Common.{◌≡◌, take}
use Rattle.mucwathi_lists.specs.Cursors.{IsIn}
use Rattle.mucwathi_lists.specs.Listed.{changes_listed}
use Rattle.mucwathi_lists.proofs.lists.list_renamed.Given as goal

abbrev pub invariant-loop-change : goal.invariant-loop-change
invariant-loop-change l = IsIn l.text l.cursor × (l.out.items ≡ changes_listed l.prefix l.text (take l.change-index l.changes))
