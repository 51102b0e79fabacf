use Rattle.std.proofs.Common.{◌≡◌, ◌++◌, ◌≤◌, ℕ, get_or, map, take, drop, length}
use Rattle.swc_tree_node.specs.declared.node.Node.{Node}
use Rattle.mucwathi_looks.specs.Given.{Rise, signed}
use Rattle.mucwathi_looks.proofs.contexts.+put_marks.Given as goal

abbrev pub invariant-put_marks_on_all-loop-i : goal.invariant-put_marks_on_all-loop-i
invariant-put_marks_on_all-loop-i l = record {
  size : length l.nodes ≡ length l.initial.nodes;
  rest : (k : ℕ) (d : Node) → l.i ≤ k → get_or l.nodes k d ≡ get_or l.initial.nodes k d;
  done : Rise l.signs → l.nodes ≡ map (signed l.signs) (take l.i l.initial.nodes) ++ drop l.i l.initial.nodes;
}
