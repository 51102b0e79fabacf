use Rattle.std.proofs.Common.{◌≡◌, false, take}
use Rattle.std.specs.List.{list_any}
use Rattle.swc_base_tables_program.specs.Given.{brings_types}
use Rattle.swc_base_tables_program.proofs.bodies.Bodies.have_types.Given as goal

abbrev pub invariant-loop-helper : goal.invariant-loop-helper
invariant-loop-helper l = list_any (brings_types l.self l.helpers.enabled) (take l.helper-index l.helper-items) ≡ false
