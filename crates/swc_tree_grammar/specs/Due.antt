-- Which pairs of parentheses a stripped tree gets: in three steps, each on what the earlier ones leave bare.
use Rattle.std.specs.Prelude.{ℕ, List, [], ◌∷◌, map, Bool, true, false, not, ◌&&◌, ◌||◌, if◌then◌else◌}
use Rattle.swc_tree_node.specs.Lower.swc_tree_marks.specs.declared.span.Span.{Span as Range}
use Rattle.swc_tree_node.specs.declared.kind.Kind.TheVariants as kind
use Rattle.swc_tree_node.specs.declared.node.Node.{Node, Span, List as Many, Identifier, Tree, out-Node, roll-Node, fold-Node, map-Node}
use Rattle.swc_tree_node.specs.declared.node.Node.TheOpen.{Node-F}
use Rattle.swc_tree_grammar.specs.Shapes.{Seq, Assign, Cond, Bin, Unary, Await, Update, Yield, Member, TaggedTpl, Call, New, OptChain, OptCall, Computed, Arrow, Declarator, AssignPat, RestPat, VarDecl, Statement, ExportDefault, For, ForIn, ForOf, items_of}
use Rattle.swc_tree_grammar.specs.Kinds.{has_kind, is_paren, is_block, is_object_pattern}
use Rattle.swc_tree_grammar.specs.Levels.{word_of, is_in}
use Rattle.swc_tree_grammar.specs.Demands.{Demand, demands, meets, at_least}
use Rattle.swc_tree_grammar.specs.Demands.Demand.{Each, Key, NewCallee}
use Rattle.swc_tree_grammar.specs.Readers.{named_in, none, is_odd_item}
use Rattle.swc_tree_grammar.specs.Starts.{Start, start, is_let_bracket}
use Rattle.swc_tree_grammar.specs.Forms.{holds}
use Rattle.swc_tree_grammar.specs.Blocks.{span_of}
use Rattle.swc_tree_grammar.specs.Grammar.{is_async_name, may_begin_statement, may_begin_export, may_begin_body}

-- where the pair round an expression stands, by where the expression does
abbrev pub Places : Type 0
Places = Range → Range

abbrev pub pair : Places → Node → Node
pair place e = Tree kind.ParenExpr (Span (place (span_of e)) ∷ e ∷ [])

abbrev pub pair_if : Bool → Places → Node → Node
pair_if b place e = if b then pair place e else e

-- the first step: round each expression that is not what its place asks, or that the reader's table names there
abbrev pub to_level : ℕ → Places → Node → Node
to_level n place e = pair_if (not (at_least n e)) place e

abbrev pub key_in : Places → Node → Node-F Node → Node
key_in place t (Computed span expr) = Tree kind.ComputedPropName (span ∷ to_level 2 place expr ∷ [])
key_in place t _ = t

-- an expression, and the same with the pair round the outermost call of its objects and tags
pub record Callee : Type 0 where
  pub whole : Node
  pub call_paired : Node

abbrev pub callee_in : Places → Node → Node-F Callee → Node
callee_in place t (Member span obj prop) = Tree kind.MemberExpr (span.whole ∷ obj.call_paired ∷ prop.whole ∷ [])
callee_in place t (TaggedTpl span tag tpl) = Tree kind.TaggedTpl (span.whole ∷ tag.call_paired ∷ tpl.whole ∷ [])
callee_in place t _ = pair place t

abbrev pub callee_step : Places → Node-F Callee → Callee
callee_step place x = (
    let whole = roll-Node (map-Node Callee Node (λ e. e.whole) x) in
    record { whole = whole; call_paired = callee_in place whole x })

abbrev pub call_paired : Places → Node → Node
call_paired place e = (fold-Node Callee (callee_step place) e).call_paired

-- what stands in a place, by what is asked of it there and by whether the reader's table names it there
abbrev pub settled : Places → Demand → (Node → Bool) → Node → Node
settled place (Each n) named es = Many (map (to_level n place) (items_of es))
settled place Key named t = key_in place t (out-Node t)
settled place (NewCallee bare) named e = if named e then pair place e else (if meets (NewCallee bare) e then e else call_paired place e)
settled place demand named e = pair_if (named e || not (meets demand e)) place e

abbrev pub each_settled : Places → List Demand → List (Node → Bool) → List Node → List Node
each_settled place (d ∷ ds) (named ∷ rest) (t ∷ ts) = settled place d named t ∷ each_settled place ds rest ts
each_settled place (d ∷ ds) [] (t ∷ ts) = settled place d none t ∷ each_settled place ds [] ts
each_settled place _ _ ts = ts

abbrev pub odd_items : Places → List Node → List Node
odd_items place [] = []
odd_items place (e ∷ []) = e ∷ []
odd_items place (e ∷ d ∷ es) = pair_if (is_odd_item e) place e ∷ odd_items place (d ∷ es)

abbrev pub sequence_statement : Places → Node → Node-F Node → Node
sequence_statement place t (Seq span exprs) = Tree kind.SeqExpr (span ∷ Many (odd_items place (items_of exprs)) ∷ [])
sequence_statement place t _ = t

abbrev pub paired_in : Places → Bool → Node-F Node → Node
paired_in place b (Statement span expr) = Tree kind.ExprStmt (span ∷ sequence_statement place expr (out-Node expr) ∷ [])
paired_in place b (Node-F.Tree k ts) = Tree k (each_settled place (demands b (Node-F.Tree k ts)) (named_in (Node-F.Tree k ts)) ts)
paired_in place b t = roll-Node t

-- a node is told whether it is the base of an optional chain
abbrev pub Pairing : Type 0
Pairing = Bool → Node

abbrev pub alone : Pairing → Node
alone f = f false

abbrev pub level_step : Places → Node-F Pairing → Pairing
level_step place (OptChain span optional base) b = Tree kind.OptChainExpr (alone span ∷ alone optional ∷ base true ∷ [])
level_step place x b = paired_in place b (map-Node Pairing Node alone x)

abbrev pub paired_by_level : Places → Node → Node
paired_by_level place t = fold-Node Pairing (level_step place) t false

-- the second step: in the first part of the head of a `for` the outermost bare `in`, and a bare `async` before `of`.
-- A node is told whether `in` may stand bare there
abbrev pub in_binary : Places → Bool → Node → Pairing → Pairing → Node → Node
in_binary place b span left right op =
    if is_in (word_of op) && not b then pair place (Tree kind.BinExpr (span ∷ op ∷ left true ∷ right true ∷ []))
    else Tree kind.BinExpr (span ∷ op ∷ left b ∷ right b ∷ [])

abbrev pub free : Pairing → Node
free f = f true

abbrev pub async_in : Places → Bool → Node → Node-F Node → Node
async_in place with_await t (Node-F.Identifier k i) = if is_async_name t && not with_await then pair place (Identifier kind.Ident i) else t
async_in place with_await t _ = t

abbrev pub of_head : Places → Node → Node → Node
of_head place is_await_loop left = async_in place (holds is_await_loop) left (out-Node left)

abbrev pub in_step : Places → Node-F Pairing → Pairing
in_step place (Bin span op left right) b = in_binary place b (free span) left right (free op)
in_step place (Seq span exprs) b = Tree kind.SeqExpr (free span ∷ exprs b ∷ [])
in_step place (Assign span op left right) b = Tree kind.AssignExpr (free span ∷ free op ∷ left b ∷ right b ∷ [])
in_step place (Cond span test cons alt) b = Tree kind.CondExpr (free span ∷ test b ∷ free cons ∷ alt b ∷ [])
in_step place (Unary span op arg) b = Tree kind.UnaryExpr (free span ∷ free op ∷ arg b ∷ [])
in_step place (Await span arg) b = Tree kind.AwaitExpr (free span ∷ arg b ∷ [])
in_step place (Update span op prefix arg) b = Tree kind.UpdateExpr (free span ∷ free op ∷ free prefix ∷ arg b ∷ [])
in_step place (Yield span arg delegate) b = Tree kind.YieldExpr (free span ∷ arg b ∷ free delegate ∷ [])
in_step place (Member span obj prop) b = Tree kind.MemberExpr (free span ∷ obj b ∷ free prop ∷ [])
in_step place (TaggedTpl span tag tpl) b = Tree kind.TaggedTpl (free span ∷ tag b ∷ free tpl ∷ [])
in_step place (Call span callee args) b = Tree kind.CallExpr (free span ∷ callee b ∷ free args ∷ [])
in_step place (New span callee args) b = Tree kind.NewExpr (free span ∷ callee b ∷ free args ∷ [])
in_step place (OptChain span optional base) b = Tree kind.OptChainExpr (free span ∷ free optional ∷ base b ∷ [])
in_step place (OptCall span callee args) b = Tree kind.OptCall (free span ∷ callee b ∷ free args ∷ [])
in_step place (Arrow span params body is_async) b = Tree kind.ArrowExpr (free span ∷ free params ∷ body b ∷ free is_async ∷ [])
in_step place (VarDecl span keyword decls) b = Tree kind.VarDecl (free span ∷ free keyword ∷ decls b ∷ [])
in_step place (Declarator span name init) b = Tree kind.VarDeclarator (free span ∷ name b ∷ init b ∷ [])
in_step place (AssignPat span left right) b = Tree kind.AssignPat (free span ∷ left b ∷ right b ∷ [])
in_step place (RestPat span arg) b = Tree kind.RestPat (free span ∷ arg b ∷ [])
in_step place (For span init test update body) b = Tree kind.ForStmt (free span ∷ init false ∷ free test ∷ free update ∷ free body ∷ [])
in_step place (ForIn span left right body) b = Tree kind.ForInStmt (free span ∷ left false ∷ free right ∷ free body ∷ [])
in_step place (ForOf span is_await_loop left right body) b = Tree kind.ForOfStmt (free span ∷ free is_await_loop ∷ of_head place (free is_await_loop) (left false) ∷ free right ∷ free body ∷ [])
in_step place (Node-F.List fs) b = Many (map (λ f. f b) fs)
in_step place x b = roll-Node (map-Node Pairing Node free x)

abbrev pub paired_in_heads : Places → Node → Node
paired_in_heads place t = fold-Node Pairing (in_step place) t true

-- the third step: where an expression may not begin as it does, the innermost leading expression that begins so
-- an expression, and the same with the pair round the innermost expression that it begins with
pub record Leading : Type 0 where
  pub whole : Node
  pub first_paired : Node

-- the base of a chain takes no pair, so the chain gets it
abbrev pub first_in : Places → Node → Node-F Leading → Node
first_in place t (Node-F.List (e ∷ es)) = Many (e.first_paired ∷ map (λ e. e.whole) es)
first_in place t (Seq span exprs) = Tree kind.SeqExpr (span.whole ∷ exprs.first_paired ∷ [])
first_in place t (Assign span op left right) = if has_kind is_object_pattern left.whole then pair place t else Tree kind.AssignExpr (span.whole ∷ op.whole ∷ left.first_paired ∷ right.whole ∷ [])
first_in place t (Cond span test cons alt) = Tree kind.CondExpr (span.whole ∷ test.first_paired ∷ cons.whole ∷ alt.whole ∷ [])
first_in place t (Bin span op left right) = Tree kind.BinExpr (span.whole ∷ op.whole ∷ left.first_paired ∷ right.whole ∷ [])
first_in place t (Update span op prefix arg) = Tree kind.UpdateExpr (span.whole ∷ op.whole ∷ prefix.whole ∷ arg.first_paired ∷ [])
first_in place t (Member span obj prop) = if is_let_bracket t then pair place t else Tree kind.MemberExpr (span.whole ∷ obj.first_paired ∷ prop.whole ∷ [])
first_in place t (TaggedTpl span tag tpl) = Tree kind.TaggedTpl (span.whole ∷ tag.first_paired ∷ tpl.whole ∷ [])
first_in place t (Call span callee args) = Tree kind.CallExpr (span.whole ∷ callee.first_paired ∷ args.whole ∷ [])
first_in place t (OptChain span optional base) = if has_kind is_paren base.first_paired then pair place t else Tree kind.OptChainExpr (span.whole ∷ optional.whole ∷ base.first_paired ∷ [])
first_in place t (OptCall span callee args) = Tree kind.OptCall (span.whole ∷ callee.first_paired ∷ args.whole ∷ [])
first_in place t _ = pair place t

abbrev pub first_step : Places → Node-F Leading → Leading
first_step place x = (
    let whole = roll-Node (map-Node Leading Node (λ e. e.whole) x) in
    record { whole = whole; first_paired = first_in place whole x })

abbrev pub begun : Places → (Start → Bool) → Node → Node
begun place may_begin e = if may_begin (start e) then e else (fold-Node Leading (first_step place) e).first_paired

abbrev pub begin_step : Places → Node-F Node → Node
begin_step place (Statement span expr) = Tree kind.ExprStmt (span ∷ begun place may_begin_statement expr ∷ [])
begin_step place (ExportDefault span expr) = Tree kind.ExportDefaultExpr (span ∷ begun place may_begin_export expr ∷ [])
begin_step place (Arrow span params body is_async) = Tree kind.ArrowExpr (span ∷ params ∷ (if has_kind is_block body then body else begun place may_begin_body body) ∷ is_async ∷ [])
begin_step place t = roll-Node t

abbrev pub paired_at_starts : Places → Node → Node
paired_at_starts place = fold-Node Node (begin_step place)

-- the tree with its due pairs
abbrev pub with_due_pairs : Places → Node → Node
with_due_pairs place t = paired_at_starts place (paired_in_heads place (paired_by_level place t))
