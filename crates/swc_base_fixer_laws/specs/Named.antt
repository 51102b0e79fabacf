-- A tree in which the name `async` before `of` is an expression, as what stands in a pair is; before `of` of `for await`
-- it may stand bare, as any name.
use Rattle.std.specs.Prelude.{List, [], ◌∷◌, Bool, not, ◌&&◌, if◌then◌else◌}
use Rattle.swc_tree_node.specs.declared.kind.Kind.{Kind}
use Rattle.swc_tree_node.specs.declared.kind.Kind.TheVariants as kind
use Rattle.swc_tree_node.specs.declared.node.Node.{Node, Identifier, Tree, out-Node, roll-Node, fold-Node}
use Rattle.swc_tree_node.specs.declared.node.Node.TheOpen.{Node-F}
use Rattle.swc_tree_grammar.specs.Forms.{holds}
use Rattle.swc_tree_grammar.specs.Grammar.{is_async_name}

abbrev pub expression_in : Bool → Node → Node-F Node → Node
expression_in with_await t (Node-F.Identifier k i) = if is_async_name t && not with_await then Identifier kind.Ident i else t
expression_in with_await t _ = t

abbrev pub expression : Node → Node → Node
expression is_await_loop left = expression_in (holds is_await_loop) left (out-Node left)

abbrev pub named_fields : Kind → List Node → List Node
named_fields kind.ForOfStmt (span ∷ is_await_loop ∷ left ∷ right ∷ body ∷ []) = span ∷ is_await_loop ∷ expression is_await_loop left ∷ right ∷ body ∷ []
named_fields k ts = ts

abbrev pub named_step : Node-F Node → Node
named_step (Node-F.Tree k ts) = Tree k (named_fields k ts)
named_step t = roll-Node t

abbrev pub named : Node → Node
named = fold-Node Node named_step
