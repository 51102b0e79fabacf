use Rattle.std.proofs.Common.{◌≡◌, ◌++◌, drop}
use Rattle.text_values.specs.Values.{template_raw}
use Rattle.text_values.proofs.raw.make_raw.Given as goal

abbrev pub invariant-bytes : goal.invariant-bytes
invariant-bytes l = l.raw.items ++ template_raw (drop l.at l.text) ≡ template_raw l.text
