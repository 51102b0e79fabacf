use Rattle.std.proofs.Common.{◌≡◌, ℕ, ◌<◌, ◌≤◌, Some, length}
use Rattle.std.specs.List.{slice_get}
use Rattle.swc_tree_node.specs.declared.node.Node.{Node, out-Node}
use Rattle.swc_base_rename_units.specs.Walk.{IsChildNamed, is_unit_at}
use Rattle.swc_base_rename_units.proofs.units.+name_free.Given as goal

-- those before are done, the others as they were
abbrev pub invariant-name_before-loop-i : goal.invariant-name_before-loop-i
invariant-name_before-loop-i g l = record {
  as_many : length l.nodes ≡ length l.initial.nodes;
  done : (k : ℕ) (c : Node) → k < l.i → slice_get l.initial.nodes k ≡ Some c → (d : Node) × (slice_get l.nodes k ≡ Some d) × IsChildNamed (g.A.Alone.becomes l.alone) (is_unit_at l.above k (out-Node c)) c d;
  rest : (k : ℕ) → l.i ≤ k → slice_get l.nodes k ≡ slice_get l.initial.nodes k;
}
