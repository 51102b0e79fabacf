-- Labels, as the code looks at them.
use Rattle.std.specs.Prelude.{Bool, false, Option, Some, None, List, slice_get}
use Rattle.swc_tree_node.specs.declared.kind.Kind.{Kind}
use Rattle.swc_tree_node.specs.declared.kind.Kind.TheVariants as kind
use Rattle.swc_tree_node.specs.declared.fields.statements.labeled_stmt.TheConstants as labeled_stmt
use Rattle.swc_tree_node.specs.declared.node.Node.{Node, out-Node}
use Rattle.swc_tree_renaming.specs.Apart.{function_in}

-- a function declaration stands there
abbrev pub is_declaration : Option Node → Bool
is_declaration None = false
is_declaration (Some t) = function_in (out-Node t)

-- a label names one
abbrev pub names_one : Kind → List Node → Bool
names_one kind.LabeledStmt ts = is_declaration (slice_get ts labeled_stmt.BODY)
names_one _ ts = false
