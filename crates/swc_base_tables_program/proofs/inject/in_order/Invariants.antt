use Rattle.std.proofs.Common.{◌≡◌, filter, take}
use Rattle.swc_base_tables_program.specs.Given.{is_in}
use Rattle.swc_base_tables_program.proofs.inject.in_order.Given as goal

abbrev pub invariant-loop-helper : goal.invariant-loop-helper
invariant-loop-helper l = l.list ≡ filter (is_in l.helpers.enabled) (take l.helper-index l.helper-items)
