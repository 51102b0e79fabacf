use Rattle.std.proofs.Common.{◌≡◌, ℕ, ◌<◌, ◌≤◌, IsTrue, Some, length}
use Rattle.std.specs.List.{slice_get}
use Rattle.swc_tree_node.specs.declared.node.Node.{Node, out-Node}
use Rattle.swc_base_rename_units.specs.Walk.{IsChildNamed, is_unit_at}
use Rattle.swc_base_rename_units.proofs.Walking.{KeptWhere, NoneTo, SoundFor}
use Rattle.swc_base_rename_units.proofs.units.+name_where_read.Given as goal

-- before the first reader the children are as they were and free, after it they are done
abbrev pub invariant-name_each-loop-i : goal.invariant-name_each-loop-i
invariant-name_each-loop-i g l = record {
  as_many : length l.nodes ≡ length l.initial.nodes;
  sound : SoundFor l.reads l.initial.nodes l.found;
  none : NoneTo l.reads l.initial.nodes l.i l.found;
  kept : KeptWhere l.initial.nodes l.nodes l.found;
  done : IsTrue l.found → (k : ℕ) (c : Node) → k < l.i → slice_get l.initial.nodes k ≡ Some c → (d : Node) × (slice_get l.nodes k ≡ Some d) × IsChildNamed (g.A.Alone.becomes l.alone) (is_unit_at l.above k (out-Node c)) c d;
  rest : (k : ℕ) → l.i ≤ k → slice_get l.nodes k ≡ slice_get l.initial.nodes k;
}
