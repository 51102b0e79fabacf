-- What is seen of a node by its form alone.
use Rattle.std.specs.Prelude.{ℕ, ◌-◌, Bool, true, false, not, List, [], ◌∷◌, codes, length, slice_get, Option, Some, None, is_some, nat_eq}
use Rattle.std.specs.Cmp.Lexicographic.{pointwise}
use Rattle.swc_tree_marks.specs.declared.span.Span.{Span}
use Rattle.swc_tree_node.specs.declared.kind.Kind.TheVariants as kind
use Rattle.swc_tree_node.specs.declared.kind.Word.TheVariants as word
use Rattle.swc_tree_node.specs.declared.node.Node.{Node, out-Node}
use Rattle.swc_tree_node.specs.declared.node.Node.TheOpen.{Node-F}
use Rattle.swc_tree_node.specs.Parts.{text_of}

-- something stands there, or its flag is set; a method that is no getter and no setter is the plain case
abbrev pub is_set : Node-F Node → Bool
is_set Node-F.Absent = false
is_set (Node-F.Flag b) = b
is_set (Node-F.Word word.Method) = false
is_set _ = true

abbrev pub is_computed : Node-F Node → Bool
is_computed (Node-F.Tree kind.ComputedPropName ts) = true
is_computed _ = false

abbrev pub is_declaration : Node-F Node → Bool
is_declaration (Node-F.Tree kind.VarDecl ts) = true
is_declaration (Node-F.Tree kind.UsingDecl ts) = true
is_declaration _ = false

abbrev pub is_block : Node-F Node → Bool
is_block (Node-F.Tree kind.BlockStmt ts) = true
is_block _ = false

-- a name that stands in the braces of an import or export
abbrev pub is_named : Node-F Node → Bool
is_named (Node-F.Tree kind.ImportNamedSpecifier ts) = true
is_named (Node-F.Tree kind.ExportNamedSpecifier ts) = true
is_named _ = false

abbrev pub is_default : Node-F Node → Bool
is_default (Node-F.Tree kind.ImportDefaultSpecifier ts) = true
is_default _ = false

abbrev pub is_rest : Node-F Node → Bool
is_rest (Node-F.Tree kind.RestPat ts) = true
is_rest _ = false

abbrev pub is_hole : Node-F Node → Bool
is_hole Node-F.Absent = true
is_hole _ = false

abbrev pub is_rest_in : Option Node → Bool
is_rest_in (Some t) = is_rest (out-Node t)
is_rest_in None = false

-- a comma may stand behind it where it is last: what takes the rest is last by itself, a hole has its own
abbrev pub takes_comma : Node-F Node → Bool
takes_comma Node-F.Absent = false
takes_comma (Node-F.Tree kind.RestPat ts) = false
takes_comma (Node-F.Tree kind.Param ts) = not (is_rest_in (slice_get ts 1))
takes_comma _ = true

abbrev pub items_of : Node-F Node → List Node
items_of (Node-F.List ts) = ts
items_of _ = []

abbrev pub last : List Node → Option Node
last ts = slice_get ts (length ts - 1)

abbrev pub takes_comma_in : Option Node → Bool
takes_comma_in (Some t) = takes_comma (out-Node t)
takes_comma_in None = false

abbrev pub may_comma : Node-F Node → Bool
may_comma x = takes_comma_in (last (items_of x))

abbrev pub is_hole_in : Option Node → Bool
is_hole_in (Some t) = is_hole (out-Node t)
is_hole_in None = false

abbrev pub ends_with_hole : Node-F Node → Bool
ends_with_hole x = is_hole_in (last (items_of x))

abbrev pub is_some_item : List Node → Bool
is_some_item [] = false
is_some_item _ = true

abbrev pub has_items : Node-F Node → Bool
has_items x = is_some_item (items_of x)

abbrev pub is_empty_list : Node-F Node → Bool
is_empty_list (Node-F.List []) = true
is_empty_list _ = false

abbrev pub is_default_only : List Node → Bool
is_default_only (t ∷ []) = is_default (out-Node t)
is_default_only _ = false

abbrev pub is_default_alone : Node-F Node → Bool
is_default_alone x = is_default_only (items_of x)

abbrev pub bound_name : Node-F Node → Option (List ℕ)
bound_name (Node-F.Identifier kind.BindingIdent i) = Some i.sym
bound_name _ = None

abbrev pub only_name : List Node → Option (List ℕ)
only_name (t ∷ []) = bound_name (out-Node t)
only_name _ = None

-- the plain name that is the one item of a list
abbrev pub lone_name : Node-F Node → Option (List ℕ)
lone_name x = only_name (items_of x)

abbrev pub bound_span : Node-F Node → Option Span
bound_span (Node-F.Identifier kind.BindingIdent i) = Some i.span
bound_span _ = None

abbrev pub only_span : List Node → Option Span
only_span (t ∷ []) = bound_span (out-Node t)
only_span _ = None

-- where that name stands
abbrev pub lone_span : Node-F Node → Option Span
lone_span x = only_span (items_of x)

abbrev pub is_let : Node-F Node → Bool
is_let (Node-F.Identifier k i) = pointwise nat_eq i.sym (codes "let")
is_let _ = false

abbrev pub text_in : Option Node → Option (List ℕ)
text_in (Some t) = text_of t
text_in None = None

abbrev pub text_at : List Node → ℕ → Option (List ℕ)
text_at ts n = text_in (slice_get ts n)

abbrev pub is_set_of : Option Node → Bool
is_set_of (Some t) = is_set (out-Node t)
is_set_of None = false

abbrev pub is_set_at : List Node → ℕ → Bool
is_set_at ts n = is_set_of (slice_get ts n)

abbrev pub is_declaration_of : Option Node → Bool
is_declaration_of (Some t) = is_declaration (out-Node t)
is_declaration_of None = false

abbrev pub is_declaration_at : List Node → ℕ → Bool
is_declaration_at ts n = is_declaration_of (slice_get ts n)

abbrev pub is_expression_statement : Node-F Node → Bool
is_expression_statement (Node-F.Tree kind.ExprStmt ts) = true
is_expression_statement _ = false

abbrev pub is_expression_of : Option Node → Bool
is_expression_of (Some t) = is_expression_statement (out-Node t)
is_expression_of None = false

abbrev pub is_expression_at : List Node → ℕ → Bool
is_expression_at ts n = is_expression_of (slice_get ts n)

abbrev pub is_lone_of : Option Node → Bool
is_lone_of (Some t) = is_some (lone_name (out-Node t))
is_lone_of None = false

abbrev pub is_lone_at : List Node → ℕ → Bool
is_lone_at ts n = is_lone_of (slice_get ts n)

-- a flag of a function
abbrev pub is_set_in : ℕ → Node-F Node → Bool
is_set_in n (Node-F.Tree k ts) = is_set_at ts n
is_set_in n _ = false
