-- The resolver may lack memory with all as it was.
use Rattle.std.proofs.Common.{◌≡◌, ℕ, inl, refl, arith}
use Rattle.swc_tree_marks.specs.declared.error.PassError.TheVariants as error
use Rattle.swc_tree_marks.specs.Globals.{Table}
use Rattle.swc_tree_node.specs.declared.node.Node.{Node}
use Rattle.swc_base_resolver.specs.Visits.{RefusesNode}

pub may_lack_memory : (pass : ℕ × ℕ) (table : Table) (program : Node) → RefusesNode pass table program pass table error.NoMemory
may_lack_memory pass table program = record {
  refusal = inl refl;
  spent = λ h. let q : error.NoMemory ≡ error.MarksSpent = h in absurd (cc);
  same = refl;
  table = (0, omega arith, refl);
}
