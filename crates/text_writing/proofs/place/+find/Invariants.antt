use Rattle.std.proofs.Common.{◌≡◌, ℕ, ◌<◌, Some}
use Rattle.std.specs.List.{slice_get}
use Rattle.swc_tree_node.specs.declared.node.Node.{Node}
use Rattle.swc_tree_walk.specs.Nodes.{HasNode}
use Rattle.text_writing.proofs.place.+find.Given as goal

-- none of those before has one
abbrev pub invariant-find_below-loop-i : goal.invariant-find_below-loop-i
invariant-find_below-loop-i g l = (k : ℕ) (c : Node) → k < l.i → slice_get l.trees k ≡ Some c → HasNode (g.F.Finder.is_sought l.finder) c → ⊥
