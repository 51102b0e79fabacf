use Rattle.std.proofs.Common.{◌-◌, ◌≤◌}
use Rattle.mucwathi_lists.specs.Cursors.{IsIn}
use Rattle.mucwathi_lists.proofs.cursor.Cursor.go.Given as goal

abbrev pub invariant-loop-here : goal.invariant-loop-here
invariant-loop-here l = IsIn l.text l.here × (l.here.at ≤ l.end)

abbrev pub decreases-loop-here : goal.decreases-loop-here
decreases-loop-here l = l.end - l.here.at
