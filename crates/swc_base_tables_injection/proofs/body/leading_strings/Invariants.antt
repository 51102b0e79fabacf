use Rattle.std.proofs.Common.{◌≡◌, ◌+◌, drop}
use Rattle.std.specs.List.{prefix_len}
use Rattle.swc_base_tables_injection.specs.Bodies.{is_string}
use Rattle.swc_base_tables_injection.proofs.body.leading_strings.Given as goal

abbrev pub invariant-loop-i : goal.invariant-loop-i
invariant-loop-i l = l.i + prefix_len is_string (drop l.i l.stmts) ≡ prefix_len is_string l.stmts
