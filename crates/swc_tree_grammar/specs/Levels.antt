-- How tightly an expression binds, from sequences (1) to what needs no parentheses anywhere (19): the productions
-- of ECMA-262, 13.2 to 13.16, each of which takes what binds tighter.
use Rattle.std.specs.Prelude.{ℕ, Bool, true, false, Option, Some, None, if◌then◌else◌}
use Rattle.swc_tree_node.specs.declared.kind.Kind.{Kind}
use Rattle.swc_tree_node.specs.declared.kind.Kind.TheVariants as kind
use Rattle.swc_tree_node.specs.declared.kind.Word.{Word}
use Rattle.swc_tree_node.specs.declared.kind.Word.TheVariants as word
use Rattle.swc_tree_node.specs.declared.node.Node.{Node, out-Node, fold-Node}
use Rattle.swc_tree_node.specs.declared.node.Node.TheOpen.{Node-F}
use Rattle.swc_tree_grammar.specs.Shapes.{Bin, Member, TaggedTpl, New}

abbrev pub operator_level : Word → ℕ
operator_level word.LogicalOr = 4
operator_level word.NullishCoalescing = 4
operator_level word.LogicalAnd = 5
operator_level word.BitOr = 6
operator_level word.BitXor = 7
operator_level word.BitAnd = 8
operator_level word.EqEq = 9
operator_level word.NotEq = 9
operator_level word.EqEqEq = 9
operator_level word.NotEqEq = 9
operator_level word.Lt = 10
operator_level word.LtEq = 10
operator_level word.Gt = 10
operator_level word.GtEq = 10
operator_level word.In = 10
operator_level word.InstanceOf = 10
operator_level word.LShift = 11
operator_level word.RShift = 11
operator_level word.ZeroFillRShift = 11
operator_level word.Plus = 12
operator_level word.Minus = 12
operator_level word.Mul = 13
operator_level word.Div = 13
operator_level word.Mod = 13
operator_level word.Exp = 14
-- no operator of two sides: the loosest
operator_level _ = 0

abbrev pub word_in : {X : Type 0} → Node-F X → Option Word
word_in (Node-F.Word w) = Some w
word_in _ = None

abbrev pub word_of : Node → Option Word
word_of t = word_in (out-Node t)

abbrev pub level_of_word : Option Word → ℕ
level_of_word (Some w) = operator_level w
level_of_word None = 0

abbrev pub is_in : Option Word → Bool
is_in (Some word.In) = true
is_in _ = false

-- the objects and tags on the left of a member or tagged template lead to a call
abbrev pub called_step : Node-F Bool → Bool
called_step (Node-F.Tree kind.CallExpr cs) = true
called_step (Member span obj prop) = obj
called_step (TaggedTpl span tag tpl) = tag
called_step _ = false

abbrev pub is_called : Node → Bool
is_called = fold-Node Bool called_step

abbrev pub is_absent_in : {X : Type 0} → Node-F X → Bool
is_absent_in Node-F.Absent = true
is_absent_in _ = false

abbrev pub is_absent : Node → Bool
is_absent t = is_absent_in (out-Node t)

abbrev pub kind_level : Kind → ℕ
kind_level kind.SeqExpr = 1
kind_level kind.AssignExpr = 2
kind_level kind.ArrowExpr = 2
kind_level kind.YieldExpr = 2
kind_level kind.CondExpr = 3
kind_level kind.UnaryExpr = 15
kind_level kind.AwaitExpr = 15
kind_level kind.UpdateExpr = 16
kind_level kind.CallExpr = 17
kind_level kind.OptChainExpr = 17
kind_level kind.SuperPropExpr = 18
kind_level kind.MetaPropExpr = 18
kind_level _ = 19

abbrev pub level_in : Node-F Node → ℕ
level_in (Bin span op left right) = level_of_word (word_of op)
level_in (Member span obj prop) = if is_called obj then 17 else 18
level_in (TaggedTpl span tag tpl) = if is_called tag then 17 else 18
level_in (New span callee args) = if is_absent args then 17 else 18
level_in (Node-F.Tree k ts) = kind_level k
level_in _ = 19

-- the level of an expression; identifiers and all that is no operation have the highest
abbrev pub level : Node → ℕ
level t = level_in (out-Node t)
