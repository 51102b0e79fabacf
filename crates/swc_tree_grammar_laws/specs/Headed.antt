-- What the second step of the due pairs settles alone: in the first part of the head of a `for` no `in` stands bare,
-- and no bare `async` stands before `of`.
use Rattle.std.specs.Prelude.{Bool, true, false, not, ◌&&◌, ◌||◌}
use Rattle.std.specs.List.{list_all}
use Rattle.swc_tree_node.specs.declared.node.Node.{Node, fold-Node, map-Node, roll-Node}
use Rattle.swc_tree_node.specs.declared.node.Node.TheOpen.{Node-F}
use Rattle.swc_tree_grammar.specs.Shapes.{Seq, Assign, Cond, Bin, Unary, Await, Update, Yield, Member, TaggedTpl, Call, New, OptChain, OptCall, Arrow, VarDecl, Declarator, AssignPat, RestPat, For, ForIn, ForOf}
use Rattle.swc_tree_grammar.specs.Levels.{word_of, is_in}
use Rattle.swc_tree_grammar.specs.Forms.{holds as is_set}
use Rattle.swc_tree_grammar.specs.Grammar.{is_async_name}

-- a node, and whether it holds where `in` may stand bare, and where not
pub record Headed : Type 0 where
  pub whole : Node
  pub holds : Bool → Bool

abbrev pub heads_in : Node-F Headed → Bool → Bool
heads_in (Bin span op left right) b = (b || not (is_in (word_of op.whole))) && (left.holds b && right.holds b)
heads_in (Seq span exprs) b = exprs.holds b
heads_in (Assign span op left right) b = left.holds b && right.holds b
heads_in (Cond span test cons alt) b = test.holds b && (cons.holds true && alt.holds b)
heads_in (Unary span op arg) b = arg.holds b
heads_in (Await span arg) b = arg.holds b
heads_in (Update span op prefix arg) b = arg.holds b
heads_in (Yield span arg delegate) b = arg.holds b
heads_in (Member span obj prop) b = obj.holds b && prop.holds true
heads_in (TaggedTpl span tag tpl) b = tag.holds b && tpl.holds true
heads_in (Call span callee args) b = callee.holds b && args.holds true
heads_in (New span callee args) b = callee.holds b && args.holds true
heads_in (OptChain span optional base) b = base.holds b
heads_in (OptCall span callee args) b = callee.holds b && args.holds true
heads_in (Arrow span params body is_async) b = params.holds true && body.holds b
heads_in (VarDecl span keyword decls) b = decls.holds b
heads_in (Declarator span name init) b = name.holds b && init.holds b
heads_in (AssignPat span left right) b = left.holds b && right.holds b
heads_in (RestPat span arg) b = arg.holds b
heads_in (For span init test update body) b = init.holds false && (test.holds true && (update.holds true && body.holds true))
heads_in (ForIn span left right body) b = left.holds false && (right.holds true && body.holds true)
heads_in (ForOf span is_await left right body) b = (is_set is_await.whole || not (is_async_name left.whole)) && (left.holds false && (right.holds true && body.holds true))
heads_in (Node-F.List es) b = list_all (λ e. e.holds b) es
heads_in (Node-F.Tree k es) b = list_all (λ e. e.holds true) es
heads_in _ b = true

abbrev pub headed_step : Node-F Headed → Headed
headed_step x = record { whole = roll-Node (map-Node Headed Node (λ e. e.whole) x); holds = heads_in x }

abbrev pub headed : Node → Bool → Bool
headed t = (fold-Node Headed headed_step t).holds
