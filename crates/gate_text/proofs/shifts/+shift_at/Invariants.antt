use Rattle.std.proofs.Common.{◌≡◌, ℕ, ◌≤◌, get_or, length}
use Rattle.swc_tree_node.specs.declared.node.Node.{Node}
use Rattle.gate_text.proofs.shifts.+shift_at.Given as goal

abbrev pub invariant-shift_below-loop-i : goal.invariant-shift_below-loop-i
invariant-shift_below-loop-i l = (length l.children ≡ length l.initial.children) × ((k : ℕ) (d : Node) → l.i ≤ k → get_or l.children k d ≡ get_or l.initial.children k d)
