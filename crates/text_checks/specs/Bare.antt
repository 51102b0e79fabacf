-- Trees that are one token, of whose parts no rule asks anything.
use Rattle.std.specs.Prelude.{Bool, true, false}
use Rattle.swc_tree_node.specs.declared.kind.Kind.{Kind}
use Rattle.swc_tree_node.specs.declared.kind.Kind.TheVariants as kind
use Rattle.swc_tree_node.specs.declared.node.Node.{Node}
use Rattle.swc_tree_node.specs.declared.node.Node.TheOpen.{Node-F}

-- a leaf that is no identifier
abbrev pub is_leaf : Node-F Node → Bool
is_leaf Node-F.Absent = true
is_leaf (Node-F.Flag x) = true
is_leaf (Node-F.Word x) = true
is_leaf (Node-F.Text x) = true
is_leaf (Node-F.Span x) = true
is_leaf _ = false

-- trees of these kinds are one token
abbrev pub is_bare : Kind → Bool
is_bare kind.IdentName = true
is_bare kind.PrivateName = true
is_bare kind.Str = true
is_bare kind.Bool = true
is_bare kind.Null = true
is_bare kind.Number = true
is_bare kind.BigInt = true
is_bare kind.Regex = true
is_bare kind.TplElement = true
is_bare kind.ThisExpr = true
is_bare kind.Super = true
is_bare kind.EmptyStmt = true
is_bare _ = false
