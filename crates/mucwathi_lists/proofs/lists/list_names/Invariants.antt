use Rattle.std.proofs.Common.{◌≡◌, take}
use Rattle.mucwathi_lists.specs.Cursors.{IsIn}
use Rattle.mucwathi_lists.specs.Listed.{names_listed}
use Rattle.mucwathi_lists.proofs.lists.list_names.Given as goal

abbrev pub invariant-loop-name : goal.invariant-loop-name
invariant-loop-name l = IsIn l.text l.cursor × (l.out.items ≡ names_listed l.text (take l.name-index l.names))
