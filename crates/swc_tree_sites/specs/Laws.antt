-- What is kept in what is left of a tree.
use Rattle.std.specs.Prelude.{ℕ, List}
use Rattle.swc_tree_node.specs.declared.node.Node.{Node}
use Rattle.swc_tree_scoping.specs.WellScoped.{EachInOneScope}
use Rattle.swc_tree_renaming.specs.Apart.{CapturesNone}
use Rattle.swc_tree_sites.specs.Smaller.{IsLeftOf, IsPlain}

-- where each name of a tree has one scope, each name of what is left has one
abbrev pub OneScopeStays : Type 0
OneScopeStays = (t n : Node) → IsPlain t → IsPlain n → IsLeftOf n t → EachInOneScope t → EachInOneScope n

-- ... and where new texts capture nothing in the tree, they capture nothing in what is left
abbrev pub NoCaptureStays : Type 0
NoCaptureStays = (t n : Node) (text : List ℕ → List ℕ) → IsPlain t → IsPlain n → IsLeftOf n t → EachInOneScope t → CapturesNone t text → CapturesNone n text
