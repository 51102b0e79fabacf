-- What an expression begins with, as the code keeps it, and which field of a node its start is that of.
use Rattle.std.specs.Prelude.{ℕ, List, [], ◌∷◌, Bool, true, false, ◌&&◌, Option, Some, None, if◌then◌else◌}
use Rattle.swc_tree_node.specs.declared.kind.Kind.{Kind}
use Rattle.swc_tree_node.specs.declared.kind.Kind.TheVariants as kind
use Rattle.swc_tree_node.specs.declared.node.Node.{Node, out-Node}
use Rattle.swc_tree_grammar.specs.Starts.{Start, is_computed_in, is_let_bracket, is_let_in}
use Rattle.swc_tree_grammar.specs.Starts.Start.{Brace, FunctionWord, AsyncFunction, ClassWord, LetBracket, Other}
use Rattle.swc_tree_grammar.specs.Forms.{holds}
use Rattle.text_derives.specs.declared.start.Start.{Start as Token}
use Rattle.text_derives.specs.declared.start.Start.TheVariants as token

abbrev pub begins : Token → Start
begins token.Brace = Brace
begins token.FunctionWord = FunctionWord
begins token.AsyncFunction = AsyncFunction
begins token.ClassWord = ClassWord
begins token.LetBracket = LetBracket
begins token.Other = Other

abbrev pub has_let_bracket : List Node → Bool
has_let_bracket (span ∷ obj ∷ prop ∷ []) = is_let_in (out-Node obj) && is_computed_in (out-Node prop)
has_let_bracket _ = false

-- the field whose start is that of the node
abbrev pub start_field : Kind → List Node → Option ℕ
start_field kind.FnExpr (ident ∷ function ∷ []) = Some 1
start_field kind.SeqExpr (span ∷ exprs ∷ []) = Some 1
start_field kind.AssignExpr (span ∷ op ∷ left ∷ right ∷ []) = Some 2
start_field kind.CondExpr (span ∷ test ∷ cons ∷ alt ∷ []) = Some 1
start_field kind.BinExpr (span ∷ op ∷ left ∷ right ∷ []) = Some 2
start_field kind.UpdateExpr (span ∷ op ∷ prefix ∷ arg ∷ []) = if holds prefix then None else Some 3
start_field kind.MemberExpr (span ∷ obj ∷ prop ∷ []) = if has_let_bracket (span ∷ obj ∷ prop ∷ []) then None else Some 1
start_field kind.CallExpr (span ∷ callee ∷ args ∷ []) = Some 1
start_field kind.TaggedTpl (span ∷ tag ∷ tpl ∷ []) = Some 1
start_field kind.OptCall (span ∷ callee ∷ args ∷ []) = Some 1
start_field kind.OptChainExpr (span ∷ optional ∷ base ∷ []) = if holds optional && is_let_bracket base then None else Some 2
start_field _ _ = None

-- the start of a node of which no field says it
abbrev pub own_start : Kind → List Node → Start
own_start kind.ObjectLit ts = Brace
own_start kind.ObjectPat ts = Brace
own_start kind.ClassExpr ts = ClassWord
own_start kind.Function (span ∷ params ∷ body ∷ is_generator ∷ is_async ∷ []) = if holds is_async then AsyncFunction else FunctionWord
own_start kind.MemberExpr (span ∷ obj ∷ prop ∷ []) = LetBracket
own_start _ _ = Other

-- `let` with `[` behind it
abbrev pub is_bracket : Start → Bool
is_bracket LetBracket = true
is_bracket _ = false
