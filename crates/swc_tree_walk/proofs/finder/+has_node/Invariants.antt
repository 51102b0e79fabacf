use Rattle.std.proofs.Common.{◌≡◌, ℕ, ◌<◌, Some}
use Rattle.std.specs.List.{slice_get}
use Rattle.swc_tree_node.specs.declared.node.Node.{Node}
use Rattle.swc_tree_walk.specs.Nodes.{HasNode}
use Rattle.swc_tree_walk.proofs.finder.+has_node.Given as goal

-- none of those before has one
abbrev pub invariant-any_has_node-loop-i : goal.invariant-any_has_node-loop-i
invariant-any_has_node-loop-i g l = (k : ℕ) (c : Node) → k < l.i → slice_get l.trees k ≡ Some c → HasNode (g.F.Finder.is_sought l.finder) c → ⊥
