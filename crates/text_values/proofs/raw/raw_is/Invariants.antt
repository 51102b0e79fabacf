use Rattle.std.proofs.Common.{◌≡◌, drop}
use Rattle.std.specs.Prelude.{bytes_eq}
use Rattle.text_values.specs.Values.{template_raw}
use Rattle.text_values.proofs.raw.raw_is.Given as goal

abbrev pub invariant-bytes : goal.invariant-bytes
invariant-bytes l = bytes_eq (template_raw (drop l.at l.text)) l.left ≡ bytes_eq (template_raw l.text) l.raw
