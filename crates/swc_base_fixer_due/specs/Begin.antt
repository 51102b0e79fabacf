-- Which field of a node its start is that of, and which it begins with.
use Rattle.std.specs.Prelude.{ℕ, List, [], ◌∷◌, Bool, false, not, ◌&&◌, Option, Some, None, if◌then◌else◌}
use Rattle.swc_tree_node.specs.declared.kind.Kind.{Kind}
use Rattle.swc_tree_node.specs.declared.kind.Kind.TheVariants as kind
use Rattle.swc_tree_node.specs.declared.node.Node.{Node, fold-Node, out-Node}
use Rattle.swc_tree_grammar.specs.Kinds.{has_kind, is_block, is_object_pattern, is_paren}
use Rattle.swc_tree_grammar.specs.Starts.{Start, is_computed_in, is_let_bracket, is_let_in}
use Rattle.swc_tree_grammar.specs.Starts.Start.{Brace, FunctionWord, AsyncFunction, ClassWord, LetBracket, Other}
use Rattle.swc_tree_grammar.specs.Forms.{holds}
use Rattle.swc_tree_grammar.specs.Due.{Places, Leading, first_step}
use Rattle.swc_tree_grammar.specs.Grammar.{may_begin_statement, may_begin_export, may_begin_body}
use Rattle.swc_base_fixer_due.specs.declared.start.Start.{Start as Token}
use Rattle.swc_base_fixer_due.specs.declared.starts.Beginning.{Beginning}
use Rattle.swc_base_fixer_due.specs.declared.starts.Beginning.TheVariants as beginning
use Rattle.swc_base_fixer_due.specs.declared.start.Start.TheVariants as token

abbrev pub begins : Token → Start
begins token.Brace = Brace
begins token.FunctionWord = FunctionWord
begins token.AsyncFunction = AsyncFunction
begins token.ClassWord = ClassWord
begins token.LetBracket = LetBracket
begins token.Other = Other

abbrev pub has_let_bracket : List Node → Bool
has_let_bracket (span ∷ obj ∷ prop ∷ []) = is_let_in (out-Node obj) && is_computed_in (out-Node prop)
has_let_bracket _ = false

-- the field whose start is that of the node
abbrev pub start_field : Kind → List Node → Option ℕ
start_field kind.FnExpr (ident ∷ function ∷ []) = Some 1
start_field kind.SeqExpr (span ∷ exprs ∷ []) = Some 1
start_field kind.AssignExpr (span ∷ op ∷ left ∷ right ∷ []) = Some 2
start_field kind.CondExpr (span ∷ test ∷ cons ∷ alt ∷ []) = Some 1
start_field kind.BinExpr (span ∷ op ∷ left ∷ right ∷ []) = Some 2
start_field kind.UpdateExpr (span ∷ op ∷ prefix ∷ arg ∷ []) = if holds prefix then None else Some 3
start_field kind.MemberExpr (span ∷ obj ∷ prop ∷ []) = if has_let_bracket (span ∷ obj ∷ prop ∷ []) then None else Some 1
start_field kind.CallExpr (span ∷ callee ∷ args ∷ []) = Some 1
start_field kind.TaggedTpl (span ∷ tag ∷ tpl ∷ []) = Some 1
start_field kind.OptCall (span ∷ callee ∷ args ∷ []) = Some 1
start_field kind.OptChainExpr (span ∷ optional ∷ base ∷ []) = if holds optional && is_let_bracket base then None else Some 2
start_field _ _ = None

-- the start of a node of which no field says it
abbrev pub own_start : Kind → List Node → Start
own_start kind.ObjectLit ts = Brace
own_start kind.ObjectPat ts = Brace
own_start kind.ClassExpr ts = ClassWord
own_start kind.Function (span ∷ params ∷ body ∷ is_generator ∷ is_async ∷ []) = if holds is_async then AsyncFunction else FunctionWord
own_start kind.MemberExpr (span ∷ obj ∷ prop ∷ []) = LetBracket
own_start _ _ = Other

abbrev pub first_paired : Places → Node → Node
first_paired place t = (fold-Node Leading (first_step place) t).first_paired

-- the pair that is due at the start of an expression stands round an expression in it
abbrev pub leads : Places → Node → Bool
leads place t = not (has_kind is_paren (first_paired place t))

-- the field that a node begins with, unless the pair stands round the node itself
abbrev pub leading_field : Places → Kind → List Node → Option ℕ
leading_field place kind.SeqExpr (span ∷ exprs ∷ []) = Some 1
leading_field place kind.AssignExpr (span ∷ op ∷ left ∷ right ∷ []) = if has_kind is_object_pattern left then None else Some 2
leading_field place kind.CondExpr (span ∷ test ∷ cons ∷ alt ∷ []) = Some 1
leading_field place kind.BinExpr (span ∷ op ∷ left ∷ right ∷ []) = Some 2
leading_field place kind.UpdateExpr (span ∷ op ∷ prefix ∷ arg ∷ []) = Some 3
leading_field place kind.MemberExpr (span ∷ obj ∷ prop ∷ []) = if has_let_bracket (span ∷ obj ∷ prop ∷ []) then None else Some 1
leading_field place kind.CallExpr (span ∷ callee ∷ args ∷ []) = Some 1
leading_field place kind.TaggedTpl (span ∷ tag ∷ tpl ∷ []) = Some 1
leading_field place kind.OptCall (span ∷ callee ∷ args ∷ []) = Some 1
leading_field place kind.OptChainExpr (span ∷ optional ∷ base ∷ []) = if leads place base then Some 2 else None
leading_field place _ _ = None

-- an expression may begin so in a place
abbrev pub may_begin : Beginning → Start → Bool
may_begin beginning.Statement = may_begin_statement
may_begin beginning.Export = may_begin_export
may_begin beginning.Body = may_begin_body

-- the field that is looked at for how it begins, and as what
abbrev pub beginning_for : Kind → List Node → Option (ℕ × Beginning)
beginning_for kind.ExprStmt (span ∷ expr ∷ []) = Some (1, beginning.Statement)
beginning_for kind.ExportDefaultExpr (span ∷ expr ∷ []) = Some (1, beginning.Export)
beginning_for kind.ArrowExpr (span ∷ params ∷ body ∷ is_async ∷ []) = if has_kind is_block body then None else Some (2, beginning.Body)
beginning_for _ _ = None
