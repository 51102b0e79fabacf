use Rattle.std.proofs.Common.{arith, ap, ◌∙◌, ◌+◌, ◌++◌}
use Rattle.std.specs.Prelude.{string_bytes}
use Rattle.swc_base_plain_numbers.specs.Numbers.{power}
use Rattle.swc_base_plain_numbers.proofs.Values.{scientific_is}
use Rattle.swc_base_plain_numbers.proofs.plain.scientific.Goals as goal

pub returns : goal.returns
returns c = scientific_is c.args.digits.now (string_bytes c.in_ok-text.text) (string_bytes c.push.new.self) (string_bytes c.push_power.new.text) c.args.scale c.length_without-length.result c.requires.digits c.length_without-length.ensures
    c.in_ok-text.ensures.ok (grind arith) (grind arith)
