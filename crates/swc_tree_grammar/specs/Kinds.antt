-- Which kind of node a node is.
use Rattle.std.specs.Prelude.{Bool, true, false}
use Rattle.swc_tree_node.specs.declared.kind.Kind.{Kind}
use Rattle.swc_tree_node.specs.declared.kind.Kind.TheVariants as kind
use Rattle.swc_tree_node.specs.declared.node.Node.{Node, out-Node}
use Rattle.swc_tree_node.specs.declared.node.Node.TheOpen.{Node-F}

abbrev pub has_kind_in : (Kind → Bool) → Node-F Node → Bool
has_kind_in p (Node-F.Tree k ts) = p k
has_kind_in p _ = false

abbrev pub has_kind : (Kind → Bool) → Node → Bool
has_kind p t = has_kind_in p (out-Node t)

abbrev pub is_paren : Kind → Bool
is_paren kind.ParenExpr = true
is_paren _ = false

abbrev pub is_block : Kind → Bool
is_block kind.BlockStmt = true
is_block _ = false

abbrev pub is_private_name : Kind → Bool
is_private_name kind.PrivateName = true
is_private_name _ = false

abbrev pub is_opt_chain : Kind → Bool
is_opt_chain kind.OptChainExpr = true
is_opt_chain _ = false

abbrev pub is_object : Kind → Bool
is_object kind.ObjectLit = true
is_object _ = false

abbrev pub is_class : Kind → Bool
is_class kind.ClassExpr = true
is_class _ = false

abbrev pub is_function : Kind → Bool
is_function kind.FnExpr = true
is_function _ = false

abbrev pub is_arrow : Kind → Bool
is_arrow kind.ArrowExpr = true
is_arrow _ = false

abbrev pub is_yield : Kind → Bool
is_yield kind.YieldExpr = true
is_yield _ = false

abbrev pub is_await : Kind → Bool
is_await kind.AwaitExpr = true
is_await _ = false

abbrev pub is_literal : Kind → Bool
is_literal kind.Str = true
is_literal kind.Bool = true
is_literal kind.Null = true
is_literal kind.Number = true
is_literal kind.BigInt = true
is_literal kind.Regex = true
is_literal _ = false

-- patterns that take a value apart
abbrev pub is_destructuring : Kind → Bool
is_destructuring kind.ArrayPat = true
is_destructuring kind.ObjectPat = true
is_destructuring _ = false

abbrev pub is_object_pattern : Kind → Bool
is_object_pattern kind.ObjectPat = true
is_object_pattern _ = false

abbrev pub is_rest : Kind → Bool
is_rest kind.RestPat = true
is_rest _ = false

-- an optional chain
abbrev pub is_chain : Node → Bool
is_chain t = has_kind is_opt_chain t
