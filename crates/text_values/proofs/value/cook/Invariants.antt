use Rattle.std.proofs.Common.{◌≡◌, ◌-◌, length, is_some, true}
use Rattle.text_values.specs.Values.{units_in, of_units}
use Rattle.text_values.proofs.Values.{finish}
use Rattle.text_values.proofs.value.cook.Given as goal

abbrev pub invariant-units : goal.invariant-units
invariant-units l = record {
  same : finish l.value.items l.half (units_in (length l.text - l.turn) l.reading l.rest) ≡ of_units (units_in (length l.text) l.reading l.text);
  good : is_some (units_in (length l.text - l.turn) l.reading l.rest) ≡ true;
}
