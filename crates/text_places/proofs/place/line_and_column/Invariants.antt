use Rattle.std.proofs.Common.{◌≡◌, ◌≤◌, ◌+◌}
use Rattle.text_places.specs.Places as spec
use Rattle.text_places.proofs.place.line_and_column.Given as goal

abbrev pub invariant-loop-i : goal.invariant-loop-i
invariant-loop-i l = (l.line ≡ spec.line l.text l.i) × ((l.column ≡ spec.column l.text l.i) × ((l.line ≤ l.i + 1) × (l.column ≤ l.i + 1)))
