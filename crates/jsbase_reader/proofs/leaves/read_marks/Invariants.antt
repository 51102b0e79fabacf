use Rattle.std.proofs.Common.{◌≡◌, drop}
use Rattle.json.specs.Value.{items_view}
use Rattle.jsbase_form.specs.Leaves.{marks_of}
use Rattle.jsbase_reader.proofs.Loops.{after}
use Rattle.jsbase_reader.proofs.leaves.read_marks.Given as goal

abbrev pub invariant-loop-i : goal.invariant-loop-i
invariant-loop-i l = marks_of l.fn.globals 0 (items_view l.values) ≡ after l.context (marks_of l.fn.globals l.i (items_view (drop l.i l.values)))
