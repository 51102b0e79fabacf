use Rattle.std.proofs.Common.{◌≡◌, ◌↔◌, ℕ, Contains, take}
use Rattle.std.specs.List.{All}
use Rattle.swc_tree_marks.specs.Globals.{numbers}
use Rattle.mucwathi_looks.proofs.table.rows_of.Given as goal

abbrev pub invariant-marks : goal.invariant-marks
invariant-marks l = record {
  below_root : All (λ row. row.1 ≡ 0) l.rows.items;
  marks : (m : ℕ) → Contains (numbers l.rows.items) m ↔ Contains (take l.i l.marks) m;
}
