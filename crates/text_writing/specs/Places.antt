-- Where a node stands that passes a test, if one does.
use Rattle.std.specs.Prelude.{◌≡◌, ℕ, Bool, IsTrue, List, [], ◌∷◌, Option, Some, None, Vec, reverse, slice_get}
use Rattle.swc_tree_node.specs.declared.node.Node.{Node, out-Node}
use Rattle.swc_tree_node.specs.declared.node.Node.TheOpen.{Node-F}
use Rattle.swc_tree_walk.specs.Nodes.{AnyHasNode, HasNode, node_at}

-- at a path stands a node that passes
abbrev pub PassesAt : (Node-F Node → Bool) → Node → List ℕ → Type 0
PassesAt test t p = (n : Node) × (node_at t p ≡ Some n) × IsTrue (test (out-Node n))

-- ... at a path whose first step leads to one of some trees
abbrev pub PassesBelow : (Node-F Node → Bool) → List Node → List ℕ → Type 0
PassesBelow test ts [] = ⊥
PassesBelow test ts (i ∷ p) = (c : Node) × (slice_get ts i ≡ Some c) × PassesAt test c p

-- one stands at the path, or none in the tree
abbrev pub IsPlace : {Z : Type 0} → (Node-F Node → Bool) → Node → Option (Vec ℕ Z) → Type 0
IsPlace test t None = HasNode test t → ⊥
IsPlace test t (Some p) = PassesAt test t p.items

-- the same of a path that has its last step first
abbrev pub Leads : {Z : Type 0} → (Node-F Node → Bool) → Node → Option (Vec ℕ Z) → Type 0
Leads test t None = HasNode test t → ⊥
Leads test t (Some p) = PassesAt test t (reverse p.items)

abbrev pub LeadsBelow : {Z : Type 0} → (Node-F Node → Bool) → List Node → Option (Vec ℕ Z) → Type 0
LeadsBelow test ts None = AnyHasNode test ts → ⊥
LeadsBelow test ts (Some p) = PassesBelow test ts (reverse p.items)
