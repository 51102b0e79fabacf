use Rattle.std.proofs.Common.{◌≡◌, ◌-◌, ◌+◌, ◌≤◌, length, is_some}
use Rattle.text_values.specs.Values.{units_in}
use Rattle.text_values.proofs.value.has_good_escapes.Given as goal

abbrev pub invariant-units : goal.invariant-units
invariant-units l = record {
  same : is_some (units_in (length l.text - l.turn) l.reading l.rest) ≡ is_some (units_in (length l.text) l.reading l.text);
  within : length l.rest + l.turn ≤ length l.text;
}
