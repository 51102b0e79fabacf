-- Which expressions stand in parentheses for a reader, though the grammar takes them bare.
use Rattle.std.specs.Prelude.{ℕ, zero, suc, List, [], ◌∷◌, Bool, true, false, not, ◌&&◌, ◌||◌, ◌==◌, Option, Some, None}
use Rattle.swc_tree_node.specs.declared.kind.Kind.{Kind}
use Rattle.swc_tree_node.specs.declared.kind.Kind.TheVariants as kind
use Rattle.swc_tree_node.specs.declared.kind.Word.{Word}
use Rattle.swc_tree_node.specs.declared.kind.Word.TheVariants as word
use Rattle.swc_tree_node.specs.declared.node.Node.{Node, out-Node}
use Rattle.swc_tree_node.specs.declared.node.Node.TheOpen.{Node-F}
use Rattle.swc_tree_node.specs.declared.fields.statements.expr_stmt.TheConstants as expr_stmt
use Rattle.swc_tree_node.specs.declared.fields.expressions.seq_expr.TheConstants as seq_expr
use Rattle.swc_tree_scoping.specs.Places.{Path, child, given}
use Rattle.swc_tree_grammar.specs.Shapes.{Seq, Assign, Bin, Unary, Member, TaggedTpl, Call, New, OptCall, Argument, Arrow, Statement, ExportDefault, ForOf, items_of}
use Rattle.swc_tree_grammar.specs.Kinds.{has_kind, is_object, is_class, is_function, is_arrow, is_yield, is_await, is_literal, is_destructuring, is_object_pattern}
use Rattle.swc_tree_grammar.specs.Levels.{word_of, is_absent}

abbrev pub is_odd_callee : Kind → Bool
is_odd_callee kind.Bool = true
is_odd_callee kind.Null = true
is_odd_callee kind.BigInt = true
is_odd_callee kind.Regex = true
is_odd_callee kind.ClassExpr = true
is_odd_callee kind.ObjectLit = true
is_odd_callee _ = false

abbrev pub is_odd_object : Kind → Bool
is_odd_object k = is_function k || is_class k

abbrev pub is_equality : Option Word → Bool
is_equality (Some word.EqEq) = true
is_equality (Some word.NotEq) = true
is_equality (Some word.EqEqEq) = true
is_equality (Some word.NotEqEq) = true
is_equality _ = false

abbrev pub is_instance : Option Word → Bool
is_instance (Some word.InstanceOf) = true
is_instance _ = false

abbrev pub odd_unary : Option Word → Option Word → Bool
odd_unary op (Some word.Delete) = true
odd_unary op (Some word.Void) = not (is_equality op)
odd_unary op _ = false

abbrev pub unary_word_in : Node-F Node → Option Word
unary_word_in (Unary span op arg) = word_of op
unary_word_in _ = None

abbrev pub is_odd_left : Option Word → Node → Bool
is_odd_left op e = odd_unary op (unary_word_in (out-Node e)) || ((is_instance op || is_equality op) && has_kind is_object e)

abbrev pub assigns_in : (Kind → Bool) → Node-F Node → Bool
assigns_in p (Assign span op left right) = has_kind p left
assigns_in p _ = false

-- an assignment to what is of such a kind
abbrev pub assigns_to : (Kind → Bool) → Node → Bool
assigns_to p e = assigns_in p (out-Node e)

abbrev pub none : Node → Bool
none e = false

-- which expressions the table names in each field of a node
abbrev pub named_in : Node-F Node → List (Node → Bool)
named_in (Call span callee args) = none ∷ has_kind is_odd_callee ∷ none ∷ []
named_in (OptCall span callee args) = none ∷ has_kind is_odd_callee ∷ none ∷ []
named_in (Member span obj prop) = none ∷ has_kind is_odd_object ∷ none ∷ []
named_in (TaggedTpl span tag tpl) = none ∷ has_kind is_function ∷ none ∷ []
named_in (New span callee args) = none ∷ has_kind is_literal ∷ none ∷ []
named_in (Bin span op left right) = none ∷ none ∷ is_odd_left (word_of op) ∷ none ∷ []
named_in (Argument spread expr) = none ∷ (λ e. is_absent spread && has_kind is_yield e) ∷ []
named_in (Arrow span params body is_async) = none ∷ none ∷ assigns_to is_destructuring ∷ none ∷ []
named_in (ExportDefault span expr) = none ∷ has_kind is_arrow ∷ []
named_in (ForOf span is_await_loop left right body) = none ∷ none ∷ none ∷ has_kind is_await ∷ none ∷ []
named_in _ = []

-- items before the last of a sequence that is a statement
abbrev pub is_odd_item : Node → Bool
is_odd_item e = has_kind is_object e || (has_kind is_class e || assigns_to is_object_pattern e)

-- the test of a place, of those that a list has for the places from 0 on
abbrev pub test_at : List (Node → Bool) → ℕ → Node → Bool
test_at [] i = none
test_at (test ∷ tests) zero = test
test_at (test ∷ tests) (suc i) = test_at tests i

abbrev pub has_later : ℕ → List Node → Bool
has_later i [] = false
has_later i (t ∷ []) = false
has_later zero (t ∷ u ∷ ts) = true
has_later (suc i) (t ∷ u ∷ ts) = has_later i (u ∷ ts)

abbrev pub names_item_in : Node-F Node → Path → Node → Bool
names_item_in (Seq span exprs) (j ∷ i ∷ []) e = (j == seq_expr.EXPRS) && (has_later i (items_of exprs) && is_odd_item e)
names_item_in _ p e = false

abbrev pub names_below : Node-F Node → Path → Node → Bool
names_below t (i ∷ []) e = test_at (named_in t) i e
names_below (Statement span expr) (i ∷ p) e = (i == expr_stmt.EXPR) && names_item_in (out-Node expr) p e
names_below _ p e = false

-- the reader's table names the expression, were it at the path from the node down
abbrev pub names : Node → Path → Node → Bool
names t [] e = false
names t (i ∷ p) e = names_below (out-Node t) (i ∷ p) e || given (child t i) false (λ u. names u p e)
