-- The table of marks that a text is resolved with.
use Rattle.std.proofs.Common.{ℕ, [], ◌∷◌, Contains, arith}
use Rattle.swc_tree_marks.specs.Globals.{numbers}
use Rattle.swc_tree_renaming.proofs.Core.{head_in, tail_in}
use Rattle.swc_base_resolver_program.specs.Marked.{MarksOk}
use Rattle.mucwathi_passes.specs.Passes.{own_table}

pub knows_free : Contains (numbers own_table) 1
knows_free = head_in {X = ℕ} 1 (2 ∷ [])

pub own_marks_ok : MarksOk own_table 1 2
own_marks_ok = ((λ e. absurd (omega (arith, e)), knows_free), (λ e. absurd (omega (arith, e)), tail_in {X = ℕ} 1 2 (2 ∷ []) (head_in {X = ℕ} 2 [])))
