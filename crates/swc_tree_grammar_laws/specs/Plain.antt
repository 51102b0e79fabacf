-- Trees in which each `if` keeps its `else`, and each optional chain is one.
use Rattle.std.specs.Prelude.{Bool, true, false, not, ◌||◌}
use Rattle.swc_tree_node.specs.declared.kind.Kind.TheVariants as kind
use Rattle.swc_tree_node.specs.declared.node.Node.{Node, out-Node}
use Rattle.swc_tree_node.specs.declared.node.Node.TheOpen.{Node-F}
use Rattle.swc_tree_grammar.specs.Shapes.{Member, OptChain, OptCall, If}
use Rattle.swc_tree_grammar.specs.Levels.{is_absent}
use Rattle.swc_tree_grammar.specs.Blocks.{takes_else}
use Rattle.swc_tree_grammar_laws.specs.Every.{every}

abbrev pub is_link_in : Node-F Node → Bool
is_link_in (Member span obj prop) = true
is_link_in (OptCall span callee args) = true
is_link_in _ = false

-- what an optional chain is made of
abbrev pub is_link : Node → Bool
is_link t = is_link_in (out-Node t)

-- the first branch of an `if` does not take its `else`
abbrev pub keeps_else_in : Node-F Node → Bool
keeps_else_in (If span test cons alt) = is_absent alt || not (takes_else cons)
keeps_else_in _ = true

abbrev pub keeps_elses : Node → Bool
keeps_elses = every keeps_else_in

-- besides a chain has its fields and is made of a member or a call, as it is in what fits the table
abbrev pub plain_in : Node-F Node → Bool
plain_in (OptChain span optional base) = is_link base
plain_in (Node-F.Tree kind.OptChainExpr ts) = false
plain_in t = keeps_else_in t

abbrev pub plain : Node → Bool
plain = every plain_in
