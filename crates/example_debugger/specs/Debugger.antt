-- Where a `debugger` statement stands.
use Rattle.std.specs.Prelude.{Bool, true, false}
use Rattle.std.proofs.Common.{inl, inr}
use Rattle.swc_tree_node.specs.declared.kind.Kind.TheVariants as kind
use Rattle.swc_tree_node.specs.declared.node.Node.{Node}
use Rattle.swc_tree_node.specs.declared.node.Node.TheOpen.{Node-F}
use Rattle.swc_tree.specs.Checks.{Program}
use Rattle.swc_tree_walk.specs.Nodes.{AnyHasNode}

abbrev pub is_debugger : Node-F Node → Bool
is_debugger (Node-F.Tree kind.DebuggerStmt fields) = true
is_debugger node = false

-- one stands somewhere in a program: at some path of one of its items
abbrev pub HasDebugger : Program → Type 0
HasDebugger (inl module_) = AnyHasNode is_debugger module_.body
HasDebugger (inr script) = AnyHasNode is_debugger script.body
