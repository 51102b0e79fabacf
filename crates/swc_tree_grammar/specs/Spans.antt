-- Which field says where a node stands.
use Rattle.std.specs.Prelude.{ℕ, List, [], ◌∷◌, Option, Some, None}
use Rattle.swc_tree_node.specs.declared.kind.Kind.{Kind}
use Rattle.swc_tree_node.specs.declared.kind.Kind.TheVariants as kind
use Rattle.swc_tree_node.specs.declared.node.Node.{Node}

-- the first; but of a function or class expression that of the function or class
abbrev pub span_field : Kind → List Node → Option ℕ
span_field kind.FnExpr (ident ∷ function ∷ []) = Some 1
span_field kind.ClassExpr (ident ∷ class ∷ []) = Some 1
span_field k [] = None
span_field k (t ∷ ts) = Some 0
