-- A table with fresh marks more holds what it held.
use Rattle.std.proofs.Common.{ℕ, zero, suc, ◌+◌, [], ◌∷◌, ◌++◌, sym, ap, ◌∙◌, append_assoc, append-nil}
use Rattle.swc_tree_marks.specs.Globals.{Table, greatest, recorded, with_fresh_marks}
use Rattle.swc_tree.specs.Passes.{IsExtended}

pub with_fresh_marks-extended : (table : Table) (parent count : ℕ) → IsExtended table (with_fresh_marks table parent count)
with_fresh_marks-extended table parent zero = ([], sym (append-nil table))
with_fresh_marks-extended table parent (suc count) =
    let earlier = with_fresh_marks-extended table parent count in
    let before = with_fresh_marks table parent count in
    let row = (greatest before + 1, recorded before parent) ∷ [] in
    (earlier.0 ++ row, ap (λ t. t ++ row) earlier.1 ∙ append_assoc table earlier.0 row)
