-- What reads names as a program runs, so that the tree does not show them all: a direct `eval` (ECMA-262, 13.3.6.1) and
-- `with` (14.11).
use Rattle.std.specs.Prelude.{◌≡◌, ℕ, Bool, true, false, IsTrue, Option, Some, None, List, [], ◌∷◌, codes, get_or, slice_get}
use Rattle.std.specs.Str.{bytes_eq}
use Rattle.swc_tree_node.specs.declared.fields.expressions.call_expr.TheConstants as call_expr
use Rattle.swc_tree_node.specs.declared.fields.expressions.paren_expr.TheConstants as paren_expr
use Rattle.swc_tree_node.specs.declared.fields.expressions.seq_expr.TheConstants as seq_expr
use Rattle.swc_tree_node.specs.declared.kind.Kind.TheVariants as kind
use Rattle.swc_tree_node.specs.declared.node.Node.{Node, fold-Node, out-Node}
use Rattle.swc_tree_node.specs.declared.node.Node.TheOpen.{Node-F}
use Rattle.swc_tree_scoping.specs.Places.{Path, child, given}

abbrev pub eval_step : Node-F Bool → Bool
eval_step (Node-F.Identifier kind.Ident i) = bytes_eq i.sym (codes "eval")
eval_step (Node-F.List (x ∷ [])) = x
eval_step (Node-F.Tree kind.ParenExpr xs) = get_or xs paren_expr.EXPR false
eval_step (Node-F.Tree kind.SeqExpr xs) = get_or xs seq_expr.EXPRS false
eval_step _ = false

-- the identifier `eval`, bare or in parentheses and sequences of one
abbrev pub is_eval : Node → Bool
is_eval = fold-Node Bool eval_step

-- a call of it, but no optional one, or `with`
abbrev pub reads_names : Node-F Node → Bool
reads_names (Node-F.Tree kind.CallExpr ts) = given (slice_get ts call_expr.CALLEE) false is_eval
reads_names (Node-F.Tree kind.WithStmt ts) = true
reads_names _ = false

-- what stands at a path
abbrev pub node_at : Node → Path → Option Node
node_at t [] = Some t
node_at t (i ∷ p) = given (child t i) None (λ c. node_at c p)

-- such a node stands in the tree
abbrev pub HasEval : Node → Type 0
HasEval t = (p : Path) × (n : Node) × (node_at t p ≡ Some n) × IsTrue (reads_names (out-Node n))

-- ... in one of some trees
abbrev pub AnyHasEval : List Node → Type 0
AnyHasEval ts = (i : ℕ) × (c : Node) × (slice_get ts i ≡ Some c) × HasEval c
