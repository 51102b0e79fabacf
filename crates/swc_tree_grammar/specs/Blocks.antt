-- Which first branches of an `if` get a block, so that an `else` can't change its `if` (ECMA-262, 14.6, the
-- note on the choice of the nearest `if`).
use Rattle.std.specs.Prelude.{[], ◌∷◌, Bool, true, false, if◌then◌else◌}
use Rattle.swc_tree_node.specs.Lower.swc_tree_marks.specs.declared.span.Span.{Span as Range}
use Rattle.swc_tree_node.specs.declared.kind.Kind.TheVariants as kind
use Rattle.swc_tree_node.specs.declared.node.Node.{Node, Span, List as Many, Tree, roll-Node, fold-Node}
use Rattle.swc_tree_node.specs.declared.node.Node.TheOpen.{Node-F}
use Rattle.swc_tree_grammar.specs.Shapes.{FnExpr, ClassExpr, If, Labeled, While, With, For, ForIn, ForOf}

abbrev pub no_span : Range
no_span = record { lo = 0; hi = 0 }

-- where a node stands: what its first field says, in a function or class expression the second
abbrev pub span_step : Node-F Range → Range
span_step (Node-F.Span s) = s
span_step (Node-F.Identifier k i) = i.span
span_step (FnExpr ident function) = function
span_step (ClassExpr ident class) = class
span_step (Node-F.Tree k (s ∷ ss)) = s
span_step _ = no_span

abbrev pub span_of : Node → Range
span_of = fold-Node Range span_step

-- whether an `else` right behind the statement would go to an `if` in it; it goes where an `else` is absent
abbrev pub takes_else_step : Node-F Bool → Bool
takes_else_step Node-F.Absent = true
takes_else_step (If span test cons alt) = alt
takes_else_step (Labeled span label body) = body
takes_else_step (While span test body) = body
takes_else_step (With span obj body) = body
takes_else_step (For span init test update body) = body
takes_else_step (ForIn span left right body) = body
takes_else_step (ForOf span is_await left right body) = body
takes_else_step _ = false

abbrev pub takes_else : Node → Bool
takes_else = fold-Node Bool takes_else_step

-- the statement in a block, which stands where the statement does
abbrev pub block : Node → Node
block t = Tree kind.BlockStmt (Span (span_of t) ∷ Many (t ∷ []) ∷ [])

abbrev pub branch : Node → Node
branch t = if takes_else t then block t else t

abbrev pub block_step : Node-F Node → Node
block_step (If span test cons alt) = Tree kind.IfStmt (span ∷ test ∷ branch cons ∷ alt ∷ [])
block_step t = roll-Node t

-- the tree with a block round each first branch that ends in an `if` without `else`
abbrev pub with_blocks : Node → Node
with_blocks = fold-Node Node block_step
