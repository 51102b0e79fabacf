use Rattle.std.proofs.Common.{◌≡◌, ◌<◌, drop}
use Rattle.text_strings.specs.Escapes.{braced_from}
use Rattle.text_strings.proofs.escape.braced.Given as goal

abbrev pub invariant-digits : goal.invariant-digits
invariant-digits l = record {
  same : braced_from l.value (drop l.at l.text) ≡ braced_from 0 l.text;
  within : l.value < 0x110000;
}
