-- Which trees the grammar of ECMA-262 derives, with one case for each production that asks something of its parts.
--
-- Parentheses are nodes of their own, so a tree that the grammar derives can be written down as it stands.
use Rattle.std.specs.Prelude.{List, ◌∷◌, Bool, true, false, not, ◌&&◌, ◌||◌, IsTrue, nat_eq, codes, Option, if◌then◌else◌}
use Rattle.std.specs.List.{list_all}
use Rattle.std.specs.Cmp.Lexicographic.{pointwise}
use Rattle.swc_tree_node.specs.declared.kind.Kind.{Kind}
use Rattle.swc_tree_node.specs.declared.kind.Kind.TheVariants as kind
use Rattle.swc_tree_node.specs.declared.kind.Word.{Word}
use Rattle.swc_tree_node.specs.declared.node.Node.{Node, out-Node, roll-Node, fold-Node, map-Node}
use Rattle.swc_tree_node.specs.declared.node.Node.TheOpen.{Node-F}
use Rattle.swc_tree_scoping.specs.Places.{has_use_strict}
use Rattle.swc_tree_grammar.specs.Shapes.{Paren, Seq, Assign, Cond, Bin, Unary, Await, Update, Yield, Member, SuperProp, TaggedTpl, Tpl, Call, New, OptChain, OptCall, Argument, Spread, KeyValue, Computed, ClassProp, PrivateProp, ClassMethod, PrivateMethod, Constructor, Getter, Setter, Arrow, Function, Class, Declarator, AssignPat, AssignPatProp, ArrayPat, ObjectPat, RestPat, Catch, VarDecl, UsingDecl, Statement, ExportDecl, ExportDefault, Return, Throw, With, Labeled, If, Switch, Case, While, DoWhile, For, ForIn, ForOf, Module, Script, items_of}
use Rattle.swc_tree_grammar.specs.Kinds.{has_kind, is_private_name, is_block}
use Rattle.swc_tree_grammar.specs.Levels.{word_of, is_in, is_absent}
use Rattle.swc_tree_grammar.specs.Demands.{Demand, demands, meets}
use Rattle.swc_tree_grammar.specs.Demands.Demand.{Any}
use Rattle.swc_tree_grammar.specs.Starts.{Start, start}
use Rattle.swc_tree_grammar.specs.Starts.Start.{Brace, FunctionWord, AsyncFunction, ClassWord, LetBracket}
use Rattle.swc_tree_grammar.specs.Forms.{form, is_body, is_branch, is_using, is_strict, are_named, holds}
use Rattle.swc_tree_grammar.specs.Blocks.{takes_else}

-- the parameter In of the grammar, and whether the code is strict
pub record Context : Type 0 where
  pub with_in : Bool
  pub strict : Bool

abbrev pub inside : Context → Context
inside c = record c { with_in = true }

abbrev pub outside : Context → Context
outside c = record c { with_in = false }

abbrev pub strictly : Bool → Context → Context
strictly b c = record { with_in = true; strict = c.strict || b }

-- a node, with what its place asks of it, whether the grammar derives it, and whether it does as the base of an
-- optional chain
pub record Judged : Type 0 where
  pub whole : Node
  pub demand : Demand
  pub derives : Context → Bool
  pub in_chain : Context → Bool

-- what its place asks, and no private name, which is an operand of `in` and nothing else
abbrev pub fits : Judged → Context → Bool
fits e c = meets e.demand e.whole && (not (has_kind is_private_name e.whole) && e.derives c)

-- the same of a list
abbrev pub each_fits : Judged → Context → Bool
each_fits es c = meets es.demand es.whole && (list_all (λ t. not (has_kind is_private_name t)) (items_of es.whole) && es.derives c)

-- a key or any other part
abbrev pub part : Context → Judged → Bool
part c e = meets e.demand e.whole && e.derives (inside c)

-- `in` takes a private name on its left, and stands where the parameter allows it (13.10)
abbrev pub left_fits : Option Word → Judged → Context → Bool
left_fits op left c = (is_in op && has_kind is_private_name left.whole) || fits left c

abbrev pub may_stand : Option Word → Context → Bool
may_stand op c = c.with_in || not (is_in op)

-- first tokens that a statement, a default export and an arrow's body can't have (14.5, 16.2.3, 15.3)
abbrev pub may_begin_statement : Start → Bool
may_begin_statement Brace = false
may_begin_statement FunctionWord = false
may_begin_statement AsyncFunction = false
may_begin_statement ClassWord = false
may_begin_statement LetBracket = false
may_begin_statement _ = true

abbrev pub may_begin_export : Start → Bool
may_begin_export FunctionWord = false
may_begin_export AsyncFunction = false
may_begin_export ClassWord = false
may_begin_export _ = true

abbrev pub may_begin_body : Start → Bool
may_begin_body Brace = false
may_begin_body _ = true

abbrev pub arrow_body : Judged → Context → Bool
arrow_body body c = if has_kind is_block body.whole then body.derives (strictly (is_strict body.whole) c) else may_begin_body (start body.whole) && fits body c

-- the head of a `for` of or in (14.7.5): `using` with names alone; no bare `async` before `of`
abbrev pub using_head_in : Node-F Node → Bool
using_head_in (UsingDecl span is_await decls) = are_named false (items_of decls)
using_head_in _ = true

abbrev pub head : Judged → Context → Bool
head left c = if is_using left.whole then using_head_in (out-Node left.whole) else left.derives (outside c)

abbrev pub async_in : Node-F Node → Bool
async_in (Node-F.Identifier k i) = pointwise nat_eq i.sym (codes "async")
async_in _ = false

abbrev pub is_async_name : Node → Bool
is_async_name t = async_in (out-Node t)

abbrev pub loop_body : Judged → Context → Bool
loop_body body c = is_body (form body.whole) && body.derives (inside c)

abbrev pub branch : Judged → Context → Bool
branch b c = is_branch c.strict (form b.whole) && b.derives (inside c)

abbrev pub no_using : Judged → Bool
no_using es = list_all (λ t. not (is_using t)) (items_of es.whole)

-- what an import or export names: names and strings, of which nothing is asked here
abbrev pub is_specifier : Kind → Bool
is_specifier kind.ImportNamedSpecifier = true
is_specifier kind.ImportDefaultSpecifier = true
is_specifier kind.ImportStarAsSpecifier = true
is_specifier kind.NamedExport = true
is_specifier kind.ExportNamedSpecifier = true
is_specifier kind.ExportNamespaceSpecifier = true
is_specifier _ = false

abbrev pub derives_in : Node-F Judged → Context → Bool
derives_in (Paren span expr) c = fits expr (inside c)
derives_in (Seq span exprs) c = each_fits exprs c
derives_in (Assign span op left right) c = left.derives c && fits right c
derives_in (Cond span test cons alt) c = fits test c && (fits cons (inside c) && fits alt c)
derives_in (Bin span op left right) c = may_stand (word_of op.whole) c && (left_fits (word_of op.whole) left c && fits right c)
derives_in (Unary span op arg) c = fits arg c
derives_in (Await span arg) c = fits arg c
derives_in (Update span op prefix arg) c = fits arg c
derives_in (Yield span arg delegate) c = fits arg c
derives_in (Member span obj prop) c = fits obj c && prop.derives (inside c)
derives_in (SuperProp span obj prop) c = prop.derives (inside c)
derives_in (TaggedTpl span tag tpl) c = fits tag c && tpl.derives (inside c)
derives_in (Tpl span exprs quasis) c = each_fits exprs (inside c)
derives_in (Call span callee args) c = fits callee c && args.derives (inside c)
derives_in (New span callee args) c = fits callee c && args.derives (inside c)
derives_in (OptChain span optional base) c = base.in_chain c
derives_in (OptCall span callee args) c = fits callee c && args.derives (inside c)
derives_in (Argument spread expr) c = fits expr (inside c)
derives_in (Spread dot3_token expr) c = fits expr (inside c)
derives_in (KeyValue key value) c = part c key && fits value (inside c)
derives_in (Computed span expr) c = fits expr (inside c)
derives_in (ClassProp span key value is_static) c = part c key && fits value (inside c)
derives_in (PrivateProp span key value is_static) c = fits value (inside c)
derives_in (Getter span key body) c = part c key && body.derives (strictly (is_strict body.whole) c)
derives_in (Setter span key param body) c = part c key && (param.derives (strictly (is_strict body.whole) c) && body.derives (strictly (is_strict body.whole) c))
derives_in (Arrow span params body is_async) c = params.derives (strictly (is_strict body.whole) c) && arrow_body body c
derives_in (Function span params body is_generator is_async) c = params.derives (strictly (is_strict body.whole) c) && body.derives (strictly (is_strict body.whole) c)
derives_in (Class span super_class body) c = fits super_class (strictly true c) && body.derives (strictly true c)
derives_in (Declarator span name init) c = name.derives c && fits init c
derives_in (AssignPat span left right) c = left.derives c && fits right c
derives_in (AssignPatProp span key value) c = fits value (inside c)
derives_in (ArrayPat span elems) c = elems.derives (inside c)
derives_in (ObjectPat span props) c = props.derives (inside c)
derives_in (RestPat span arg) c = arg.derives c
derives_in (Constructor span key params body) c = params.derives (inside c) && body.derives (inside c)
derives_in (ClassMethod span key function keyword is_static) c = part c key && function.derives (inside c)
derives_in (PrivateMethod span key function keyword is_static) c = function.derives (inside c)
derives_in (Catch span param body) c = param.derives (inside c) && body.derives (inside c)
derives_in (ExportDecl span decl) c = decl.derives (inside c)
derives_in (VarDecl span keyword decls) c = decls.derives c
derives_in (UsingDecl span is_await decls) c = are_named true (items_of decls.whole) && decls.derives (inside c)
derives_in (Statement span expr) c = may_begin_statement (start expr.whole) && fits expr (inside c)
derives_in (ExportDefault span expr) c = may_begin_export (start expr.whole) && fits expr (inside c)
derives_in (Return span arg) c = fits arg (inside c)
derives_in (Throw span arg) c = fits arg (inside c)
derives_in (With span obj body) c = fits obj (inside c) && loop_body body c
derives_in (Labeled span label body) c = branch body c
derives_in (If span test cons alt) c = fits test (inside c) && (branch cons c && (is_absent alt.whole || (not (takes_else cons.whole) && branch alt c)))
derives_in (Switch span discriminant cases) c = fits discriminant (inside c) && cases.derives (inside c)
derives_in (Case span test cons) c = fits test (inside c) && (no_using cons && cons.derives (inside c))
derives_in (While span test body) c = fits test (inside c) && loop_body body c
derives_in (DoWhile span body test) c = fits test (inside c) && loop_body body c
derives_in (For span init test update body) c = fits init (outside c) && (fits test (inside c) && (fits update (inside c) && loop_body body c))
derives_in (ForIn span left right body) c = not (is_using left.whole) && (head left c && (fits right (inside c) && loop_body body c))
derives_in (ForOf span is_await left right body) c = (holds is_await.whole || not (is_async_name left.whole)) && (head left c && (fits right (inside c) && loop_body body c))
derives_in (Module span body shebang) c = body.derives (strictly true c)
derives_in (Script span body shebang) c = no_using body && body.derives (strictly (has_use_strict (items_of body.whole)) c)
derives_in (Node-F.Tree k es) c = is_specifier k || list_all (part c) es
derives_in (Node-F.List es) c = list_all (λ e. e.derives c) es
derives_in _ c = true

abbrev pub in_chain_in : Node-F Judged → Context → Bool
in_chain_in (Member span obj prop) c = fits obj c && prop.derives (inside c)
in_chain_in (OptCall span callee args) c = fits callee c && args.derives (inside c)
in_chain_in _ c = false

-- each with what its place asks
abbrev pub each_asked : List Demand → List Judged → List Judged
each_asked (d ∷ ds) (e ∷ es) = record e { demand = d } ∷ each_asked ds es
each_asked _ es = es

abbrev pub asked : Bool → Node-F Node → Node-F Judged → Node-F Judged
asked in_chain t (Node-F.Tree k es) = Node-F.Tree k (each_asked (demands in_chain t) es)
asked in_chain t x = x

abbrev pub judged_step : Node-F Judged → Judged
judged_step x = (
    let t = map-Node Judged Node (λ e. e.whole) x in
    record { whole = roll-Node t; demand = Any; derives = derives_in (asked false t x); in_chain = in_chain_in (asked true t x) })

abbrev pub derives : Node → Context → Bool
derives t = (fold-Node Judged judged_step t).derives

-- the grammar derives the program
abbrev pub FitsGrammar : Node → Type 0
FitsGrammar t = IsTrue (derives t (record { with_in = true; strict = false }))
