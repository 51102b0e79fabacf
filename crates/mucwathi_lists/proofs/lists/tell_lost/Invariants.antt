use Rattle.std.proofs.Common.{◌≡◌, take}
use Rattle.mucwathi_lists.specs.Cursors.{IsIn}
use Rattle.mucwathi_lists.specs.Listed.{lost_listed}
use Rattle.mucwathi_lists.proofs.lists.tell_lost.Given as goal

abbrev pub invariant-loop-at : goal.invariant-loop-at
invariant-loop-at l = IsIn l.text l.cursor × (l.out.items ≡ lost_listed l.name l.text (take l.at-index l.lost))
