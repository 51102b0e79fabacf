use Rattle.std.proofs.Common.{◌≡◌, drop}
use Rattle.json.specs.Value.{items_view}
use Rattle.jsbase_form.specs.Tables.{pairs_of}
use Rattle.jsbase_reader.proofs.Loops.{after}
use Rattle.jsbase_reader.proofs.envelope.read_rows.Given as goal

abbrev pub invariant-loop-i : goal.invariant-loop-i
invariant-loop-i l = pairs_of 0 (items_view l.values) ≡ after l.rows (pairs_of l.i (items_view (drop l.i l.values)))
