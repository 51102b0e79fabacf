-- Statements that are strings, as directives are (ECMA-262, 11.2.1).
use Rattle.std.specs.Prelude.{ℕ, List, Bool, Option, Some, None, is_some}
use Rattle.swc_tree_node.specs.declared.node.Node.{Node}
use Rattle.swc_tree_scoping.specs.Places.{literal_of, string_of}
use Rattle.swc_tree_statements.specs.declared.stmt.Stmt.{Stmt}
use Rattle.swc_tree_statements.specs.declared.stmt.Stmt.TheVariants as stmt

abbrev pub is_string : Node → Bool
is_string t = is_some (string_of t)

-- the string that an opened statement is, if it is one
abbrev pub string_in : Stmt → Option (List ℕ)
string_in (stmt.Expr x) = literal_of (Some x.expr)
string_in _ = None
