-- The type of a handle of an expression, as the logic holds it.
use denote.RattleType.{RattleType}
use Rattle.swc_tree_handle.specs.contracts.tree.Tree as tree
use Rattle.swc_tree_handle.specs.contracts.class.expressions.Expr as expr
use Rattle.swc_tree_handle.specs.contracts.class.expressions.ExprSyntax.TheImpl.{ghosts}

abbrev pub expr_row : RattleType
expr_row = tree.the_row expr.the_row ghosts
