use Rattle.std.proofs.Common.{◌≡◌, map, take}
use Rattle.swc_base_tables_helpers.specs.Table.{name_of}
use Rattle.swc_base_tables_program.proofs.inject.names_of.Given as goal

abbrev pub invariant-loop-helper : goal.invariant-loop-helper
invariant-loop-helper l = l.names ≡ map name_of (take l.helper-index l.helper-items)
