-- Where `in` may stand bare, in heads of `for` and elsewhere.
use Rattle.std.specs.Prelude.{ℕ, List, [], ◌∷◌, Bool, true, false, not, ◌==◌, ◌&&◌, ◌||◌, if◌then◌else◌}
use Rattle.swc_tree_node.specs.declared.kind.Kind.{Kind}
use Rattle.swc_tree_node.specs.declared.kind.Kind.TheVariants as kind
use Rattle.swc_tree_node.specs.declared.node.Node.{Node, Identifier, Tree}
use Rattle.swc_tree_node.specs.declared.node.Node.TheOpen.{Node-F}
use Rattle.swc_tree_grammar.specs.Shapes.{Seq, Assign, Cond, Bin, Unary, Await, Update, Yield, Member, TaggedTpl, Call, New, OptChain, OptCall, Arrow, Declarator, AssignPat, RestPat, VarDecl, For, ForIn, ForOf}
use Rattle.swc_tree_grammar.specs.Levels.{word_of, is_in}
use Rattle.swc_tree_grammar.specs.Due.{Places, of_head, pair}
use Rattle.swc_base_fixer_due.specs.declared.heads.Handing.{Handing}
use Rattle.swc_base_fixer_due.specs.declared.heads.Handing.TheVariants as handing

-- whether `in` may stand bare in a field of a node where it may if the flag holds
abbrev pub flag_at : Handing → Bool → ℕ → Bool
flag_at handing.ToAll b n = b
flag_at handing.ToNone b n = true
flag_at (handing.ToOne i) b n = if n == i then b else true
flag_at (handing.ToTwo i j) b n = if n == i || n == j then b else true
flag_at (handing.Head i) b n = not (n == i)

abbrev pub handing_for : Node-F Node → Handing
handing_for (Bin span op left right) = handing.ToTwo 2 3
handing_for (Seq span exprs) = handing.ToOne 1
handing_for (Assign span op left right) = handing.ToTwo 2 3
handing_for (Cond span test cons alt) = handing.ToTwo 1 3
handing_for (Unary span op arg) = handing.ToOne 2
handing_for (Await span arg) = handing.ToOne 1
handing_for (Update span op prefix arg) = handing.ToOne 3
handing_for (Yield span arg delegate) = handing.ToOne 1
handing_for (Member span obj prop) = handing.ToOne 1
handing_for (TaggedTpl span tag tpl) = handing.ToOne 1
handing_for (Call span callee args) = handing.ToOne 1
handing_for (New span callee args) = handing.ToOne 1
handing_for (OptCall span callee args) = handing.ToOne 1
handing_for (OptChain span optional base) = handing.ToOne 2
handing_for (Arrow span params body is_async) = handing.ToOne 2
handing_for (VarDecl span keyword decls) = handing.ToOne 2
handing_for (Declarator span name init) = handing.ToTwo 1 2
handing_for (AssignPat span left right) = handing.ToTwo 1 2
handing_for (RestPat span arg) = handing.ToOne 1
handing_for (For span init test update body) = handing.Head 1
handing_for (ForIn span left right body) = handing.Head 1
handing_for (ForOf span is_await left right body) = handing.Head 2
handing_for _ = handing.ToNone

-- an `in` where none may stand bare
abbrev pub is_bare_in : Bool → Node-F Node → Bool
is_bare_in b (Bin span op left right) = is_in (word_of op) && not b
is_bare_in b _ = false

-- an expression in place of a name that stands as a pattern
abbrev pub as_expression : Node → Node-F Node → Node
as_expression t (Node-F.Identifier k i) = Identifier kind.Ident i
as_expression t _ = t

abbrev pub of_headed : Places → Kind → List Node → Node
of_headed place kind.ForOfStmt (span ∷ is_await_loop ∷ left ∷ right ∷ body ∷ []) = Tree kind.ForOfStmt (span ∷ is_await_loop ∷ of_head place is_await_loop left ∷ right ∷ body ∷ [])
of_headed place k ts = Tree k ts

-- a tree whose fields have their pairs, in a pair if it is an `in` that may not stand bare
abbrev pub headed : Places → Bool → Kind → List Node → Node
headed place is_due k ts = if is_due then pair place (Tree k ts) else of_headed place k ts
