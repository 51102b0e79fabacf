-- Expressions, seen through what holds them.
use Rattle.std.specs.Prelude.{Option, Some, None}
use Rattle.swc_tree_marks.specs.declared.ident.Ident.{Ident}
use Rattle.swc_tree_node.specs.declared.kind.Kind.TheVariants as kind
use Rattle.swc_tree_node.specs.declared.node.Node.{Node, out-Node}
use Rattle.swc_tree_node.specs.declared.node.Node.TheOpen.{Node-F}
use Rattle.swc_tree_expressions.specs.declared.expr.Expr.{Expr}
use Rattle.swc_tree_expressions.specs.declared.expr.Expr.TheVariants as expr
use Rattle.swc_tree_expressions.specs.declared.callee.Callee.{Callee}
use Rattle.swc_tree_expressions.specs.declared.callee.Callee.TheVariants as callee

-- the identifier that an expression is, if it is one
abbrev pub identifier_of : Expr → Option Ident
identifier_of (expr.Ident x) = Some x
identifier_of _ = None

abbrev identifier_in : Node-F Node → Option Ident
identifier_in (Node-F.Identifier kind.Ident x) = Some x
identifier_in _ = None

abbrev pub identifier_at : Node → Option Ident
identifier_at t = identifier_in (out-Node t)

-- the expression that is called; `super` and `import` are none
abbrev pub called : Callee → Option Node
called (callee.Expr x) = Some x
called _ = None

abbrev pub within : {N : Type 0} → (N → Option Node) → Option N → Option Node
within expr None = None
within expr (Some n) = expr n

-- the callee with another expression called, if it calls one
abbrev pub called_as : Callee → Node → Callee
called_as (callee.Expr x) t = callee.Expr t
called_as c t = c

abbrev pub put_within : {N : Type 0} → (N → Node → N) → Option N → Node → Option N
put_within put None t = None
put_within put (Some n) t = Some (put n t)
