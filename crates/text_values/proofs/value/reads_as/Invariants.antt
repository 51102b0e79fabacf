use Rattle.std.proofs.Common.{◌≡◌, ◌-◌, length}
use Rattle.text_values.specs.Values.{units_in}
use Rattle.text_values.proofs.Values.{matches}
use Rattle.text_values.proofs.value.reads_as.Given as goal

abbrev pub invariant-units : goal.invariant-units
invariant-units l =
    matches l.half (units_in (length l.text - l.turn) l.reading l.rest) l.left ≡ matches 0 (units_in (length l.text) l.reading l.text) l.value
