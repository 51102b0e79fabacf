-- Which field of a node is looked at.
use Rattle.std.specs.Prelude.{ℕ, Bool, true, false, List, [], ◌∷◌, Option, Some, None, if◌then◌else◌}
use Rattle.swc_tree_node.specs.declared.kind.Kind.{Kind}
use Rattle.swc_tree_node.specs.declared.kind.Kind.TheVariants as kind
use Rattle.swc_tree_node.specs.declared.node.Node.{Node}
use Rattle.swc_tree_grammar.specs.Stripped.{is_void}

-- the field with all that is left of an expression whose value is dropped, if that is one field
abbrev pub field_left : Kind → List Node → Option ℕ
field_left kind.SeqExpr (span ∷ exprs ∷ []) = Some 1
field_left kind.UnaryExpr (span ∷ op ∷ arg ∷ []) = if is_void op then Some 2 else None
field_left _ _ = None

-- the field with the statement that stands last in a statement
abbrev pub last_statement : Kind → List Node → Option ℕ
last_statement kind.LabeledStmt (span ∷ label ∷ body ∷ []) = Some 2
last_statement kind.WhileStmt (span ∷ test ∷ body ∷ []) = Some 2
last_statement kind.WithStmt (span ∷ obj ∷ body ∷ []) = Some 2
last_statement kind.IfStmt (span ∷ test ∷ cons ∷ alt ∷ []) = Some 3
last_statement kind.ForInStmt (span ∷ left ∷ right ∷ body ∷ []) = Some 3
last_statement kind.ForStmt (span ∷ init ∷ test ∷ update ∷ body ∷ []) = Some 4
last_statement kind.ForOfStmt (span ∷ is_await ∷ left ∷ right ∷ body ∷ []) = Some 4
last_statement _ _ = None

-- the field with the content of a pair or with the items of a sequence
abbrev pub content_field : Kind → List Node → Option ℕ
content_field kind.ParenExpr (span ∷ expr ∷ []) = Some 1
content_field kind.SeqExpr (span ∷ exprs ∷ []) = Some 1
content_field _ _ = None

-- the third field is the target of an assignment
abbrev pub is_assignment : Kind → List Node → Bool
is_assignment kind.AssignExpr (span ∷ op ∷ left ∷ right ∷ []) = true
is_assignment _ _ = false
