use Rattle.std.proofs.Common.{◌≡◌, ◌++◌, drop}
use Rattle.std.specs.List.{flat_map}
use Rattle.mucwathi_looks.proofs.table.add_marks.Given as goal

abbrev pub invariant-signs : goal.invariant-signs
invariant-signs l = l.marks.items ++ flat_map (λ s. s.marks.items) (drop l.i l.signs) ≡ l.initial.marks.items ++ flat_map (λ s. s.marks.items) l.signs
