use Rattle.std.proofs.Common.{◌≡◌}
use Rattle.std.specs.List.{list_any}
use Rattle.swc_base_rename_naming.specs.Chained.{ids_left, ids_of}
use Rattle.swc_base_rename_naming.proofs.leaked.any_occurs.Given as goal

-- whether one occurs is settled by those that are left
abbrev pub invariant-loop-id : goal.invariant-loop-id
invariant-loop-id g l = list_any (g.A.Asked.occurs l.asked l.scope) (ids_left l.id-iterator) ≡ list_any (g.A.Asked.occurs l.asked l.scope) (ids_of l.fn.holders l.text)
