-- What an expression begins with (ECMA-262, the lookahead restrictions of 14.5, 15.3 and 16.2.3).
use Rattle.std.specs.Prelude.{◌∷◌, Bool, true, false, ◌&&◌, codes, nat_eq, if◌then◌else◌}
use Rattle.std.specs.Cmp.Lexicographic.{pointwise}
use Rattle.swc_tree_node.specs.declared.kind.Kind.TheVariants as kind
use Rattle.swc_tree_node.specs.declared.node.Node.{Node, out-Node, roll-Node, fold-Node, map-Node}
use Rattle.swc_tree_node.specs.declared.node.Node.TheOpen.{Node-F}
use Rattle.swc_tree_grammar.specs.Shapes.{Bin, Member, TaggedTpl, Call, Cond, Seq, Assign, Update, OptChain, OptCall, Computed, Function, FnExpr}
use Rattle.swc_tree_grammar.specs.Forms.{holds}

-- the first token, as far as a place asks for it
pub data Start : Type 0 where
  Brace : Start
  FunctionWord : Start
  -- `async` with `function` behind it
  AsyncFunction : Start
  ClassWord : Start
  -- `let` with `[` behind it
  LetBracket : Start
  -- any other
  Other : Start

abbrev pub is_let_in : Node-F Node → Bool
is_let_in (Node-F.Identifier k i) = pointwise nat_eq i.sym (codes "let")
is_let_in _ = false

abbrev pub is_computed_in : Node-F Node → Bool
is_computed_in (Computed span expr) = true
is_computed_in _ = false

abbrev pub let_bracket_in : Node-F Node → Bool
let_bracket_in (Member span obj prop) = is_let_in (out-Node obj) && is_computed_in (out-Node prop)
let_bracket_in _ = false

-- the name `let` with a computed key
abbrev pub is_let_bracket : Node → Bool
is_let_bracket t = let_bracket_in (out-Node t)

-- a node, with what it begins with
pub record Begun : Type 0 where
  pub whole : Node
  pub start : Start

-- in `let?.[x]` no bracket stands behind `let`; behind a prefix operator the operand is not first
abbrev pub start_in : Node → Node-F Begun → Start
start_in t (Node-F.List (e ∷ es)) = e.start
start_in t (Node-F.Tree kind.ObjectLit es) = Brace
start_in t (Node-F.Tree kind.ObjectPat es) = Brace
start_in t (Node-F.Tree kind.ClassExpr es) = ClassWord
start_in t (Function span params body is_generator is_async) = if holds is_async.whole then AsyncFunction else FunctionWord
start_in t (FnExpr ident function) = function.start
start_in t (Seq span exprs) = exprs.start
start_in t (Assign span op left right) = left.start
start_in t (Cond span test cons alt) = test.start
start_in t (Bin span op left right) = left.start
start_in t (Update span op prefix arg) = if holds prefix.whole then Other else arg.start
start_in t (Member span obj prop) = if is_let_bracket t then LetBracket else obj.start
start_in t (Call span callee args) = callee.start
start_in t (TaggedTpl span tag tpl) = tag.start
start_in t (OptChain span optional base) = if holds optional.whole && is_let_bracket base.whole then Other else base.start
start_in t (OptCall span callee args) = callee.start
start_in t _ = Other

abbrev pub start_step : Node-F Begun → Begun
start_step x = (
    let whole = roll-Node (map-Node Begun Node (λ e. e.whole) x) in
    record { whole = whole; start = start_in whole x })

abbrev pub start : Node → Start
start t = (fold-Node Begun start_step t).start
