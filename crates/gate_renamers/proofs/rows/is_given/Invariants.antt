use Rattle.std.proofs.Common.{◌≡◌, ◌==◌}
use Rattle.std.specs.List.{list_any}
use Rattle.swc_base_rename_naming.specs.Chained.{ids_left, ids_of}
use Rattle.gate_renamers.proofs.rows.is_given.Given as goal

-- what is left decides
abbrev pub invariant-loop-other : goal.invariant-loop-other
invariant-loop-other l = list_any (λ x. x == l.id) (ids_of l.fn.map l.text) ≡ list_any (λ x. x == l.id) (ids_left l.other-iterator)
