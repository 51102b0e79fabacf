-- How a program names a helper, and the bodies of helpers.
use Rattle.std.specs.Prelude.{ℕ, List, [], ◌∷◌}
use Rattle.swc_tree_marks.specs.declared.ident.Ident.{Ident}
use Rattle.swc_tree_marks.specs.declared.span.Span.{Span}
use Rattle.swc_tree_node.specs.declared.kind.Class.TheVariants as class
use Rattle.swc_tree_node.specs.declared.slot.Content.TheVariants as content
use Rattle.swc_tree_node.specs.declared.slot.Slot.TheVariants as slot
use Rattle.swc_tree_node.specs.declared.node.Node.{Node}
use Rattle.swc_tree_node.specs.Fits.{AllFit}
use Rattle.swc_base_tables_helpers.specs.Table.{name_of}
use Rattle.swc_base_tables_injection.specs.Brought.{local_name}
use Rattle.swc_base_tables_program.specs.Given.{body_or_none}
use Rattle.swc_base_tables_program.specs.declared.bodies.Bodies.{Bodies}

-- `_throw`, in the context of the mark
abbrev pub named : ℕ → Span → ℕ → Ident
named mark span helper = record { span = span; ctxt = mark ∷ []; sym = local_name (name_of helper) }

-- each node may stand where a statement does
abbrev pub Statements : List Node → Type 0
Statements body = AllFit (slot.One (content.Node class.Stmt)) body

-- the body of each helper is a list of statements
abbrev pub AreStatements : Bodies → Type 0
AreStatements bodies = (helper : ℕ) → Statements (body_or_none bodies helper)
