-- What stands in a tree.
use Rattle.std.specs.Prelude.{◌≡◌, ℕ, Bool, IsTrue, Option, Some, None, List, [], ◌∷◌, slice_get}
use Rattle.swc_tree_node.specs.declared.node.Node.{Node, out-Node}
use Rattle.swc_tree_node.specs.declared.node.Node.TheOpen.{Node-F}
use Rattle.swc_tree_scoping.specs.Places.{Path, child, given}

-- what stands at a path
abbrev pub node_at : Node → Path → Option Node
node_at t [] = Some t
node_at t (i ∷ p) = given (child t i) None (λ c. node_at c p)

-- a node that passes the test stands in the tree
abbrev pub HasNode : (Node-F Node → Bool) → Node → Type 0
HasNode test t = (p : Path) × (n : Node) × (node_at t p ≡ Some n) × IsTrue (test (out-Node n))

-- ... in one of some trees
abbrev pub AnyHasNode : (Node-F Node → Bool) → List Node → Type 0
AnyHasNode test ts = (i : ℕ) × (c : Node) × (slice_get ts i ≡ Some c) × HasNode test c
